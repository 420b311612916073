-- Why a put sets its field and nothing else, and why the order of puts to disjoint fields does not matter.
use Rattle.std.proofs.Common.{◌≡◌, ℕ, zero, suc, ◌+◌, ◌-◌, ◌≤◌, ◌<◌, ◌^◌, ◌⊎◌, inl, inr, Bool, false, List, [], ◌∷◌, ◌++◌, length, take, drop, get_or, pos, refl, sym, ap, ◌∙◌, subst, arith, length-append, length-take, length-drop, append_assoc}
use Rattle.std.specs.List.{replace_range}
use Rattle.std.specs.Prelude.{All, AllPairs, Any, Contains, IsPermutation}
use Rattle.std.proofs.lemmas.List.{get_or_append_left, get_or-append_right, get_or-take, get_or-drop, same_lists, take_at, drop_at, get_or_default}
use Rattle.std.proofs.lemmas.List.Elements.{All-nil, All-cons, All-head, All-tail, All-get_or}
use Rattle.std.proofs.lemmas.List.Sorted.{All-permutation, Contains-permutation}
use Rattle.std.proofs.lemmas.Bool.{cases_lt, cases_order}
use Rattle.arbitrary_int.specs.BitList.{bits, num}
use Rattle.bit_fields.specs.BitField.{field_bits, with_field, bit_of, IsInField, AreDisjoint, Put, IsInBounds, after_puts}
use Rattle.arbitrary_int.proofs.UnsignedNumber.{length-bits, bits-num_of, num-lt_of, num-bits_small}
use Rattle.arbitrary_base.proofs.bit_lists.Movement.{length-items, items-items}

-- ---- a list in the middle of another

-- what std calls `replace_range`, where as many go as come
abbrev placed : ℕ → List Bool → List Bool → List Bool
placed start l whole = replace_range whole start (start + length l) l

module _ (start : ℕ) (l whole : List Bool) (fits : start + length l ≤ length whole) where
  front_length : length (take start whole) ≡ start
  front_length = simp length-take (omega arith)

  two_length : length (take start whole ++ l) ≡ start + length l
  two_length = simp (length-append, length-take) (omega arith)

  length-placed : length (placed start l whole) ≡ length whole
  length-placed = simp (length-append, length-take, length-drop) (omega arith)

  placed-in : (i : ℕ) (d : Bool) → start ≤ i → i < start + length l → get_or (placed start l whole) i d ≡ get_or l (i - start) d
  placed-in i d h g =
      get_or_append_left (take start whole ++ l) (drop (start + length l) whole) d i (omega (arith, two_length))
      ∙ get_or-append_right (take start whole) l start i d front_length h

  placed-below : (i : ℕ) (d : Bool) → i < start → get_or (placed start l whole) i d ≡ get_or whole i d
  placed-below i d h =
      get_or_append_left (take start whole ++ l) (drop (start + length l) whole) d i (omega (arith, two_length))
      ∙ get_or_append_left (take start whole) l d i (omega (arith, front_length))
      ∙ get_or-take start whole i d h

  placed-above : (i : ℕ) (d : Bool) → start + length l ≤ i → get_or (placed start l whole) i d ≡ get_or whole i d
  placed-above i d h =
      get_or-append_right (take start whole ++ l) (drop (start + length l) whole) (start + length l) i d two_length h
      ∙ get_or-drop (start + length l) whole (i - (start + length l)) d
      ∙ ap (λ (k : ℕ). get_or whole k d) (let e : start + length l + (i - (start + length l)) ≡ i = omega arith in e)

  take-placed : take start (placed start l whole) ≡ take start whole
  take-placed = ap (take start) (append_assoc (take start whole) l (drop (start + length l) whole)) ∙ take_at (take start whole) (l ++ drop (start + length l) whole) start front_length

  drop-placed : drop (start + length l) (placed start l whole) ≡ drop (start + length l) whole
  drop-placed = drop_at (take start whole ++ l) (drop (start + length l) whole) (start + length l) two_length

  items-placed : take (length l) (drop start (placed start l whole)) ≡ l
  items-placed =
      ap (take (length l)) (ap (drop start) (append_assoc (take start whole) l (drop (start + length l) whole)) ∙ drop_at (take start whole) (l ++ drop (start + length l) whole) start front_length)
      ∙ take_at l (drop (start + length l) whole) (length l) refl

  items-placed_below : (other width : ℕ) → other + width ≤ start → take width (drop other (placed start l whole)) ≡ take width (drop other whole)
  items-placed_below other width h =
      ap (λ (n : ℕ). take width (drop n (placed start l whole))) front
      ∙ sym (items-items 0 other width start (placed start l whole) h) ∙ ap (λ (m : List Bool). take width (drop other m)) take-placed ∙ items-items 0 other width start whole h
      ∙ sym (ap (λ (n : ℕ). take width (drop n whole)) front)
    where
      front : other ≡ 0 + other
      front = omega arith

  items-placed_above : (other width : ℕ) → start + length l ≤ other → take width (drop other (placed start l whole)) ≡ take width (drop other whole)
  items-placed_above other width h =
      let at : ℕ = other - (start + length l) in
      let e : other ≡ start + length l + at = omega arith in
      let room : at + width ≤ at + width = omega arith in
      rw e (sym (items-items (start + length l) at width (at + width) (placed start l whole) room)
      ∙ ap (λ (m : List Bool). take width (drop at (take (at + width) m))) drop-placed
      ∙ items-items (start + length l) at width (at + width) whole room)

-- ---- one put

-- a bit is in the field, below it or above it
place-of : (start width i : ℕ) → (IsInField start width i) ⊎ ((i < start) ⊎ (start + width ≤ i))
place-of start width i = elim (cases_lt i start) [
  | inl below ↦ inr (inl below)
  | inr from ↦ elim (cases_lt i (start + width)) [
    | inl within ↦ inl (from, within)
    | inr above ↦ inr (inr above)
  ]
]

in_or_out : (start width i : ℕ) → (IsInField start width i) ⊎ (¬ (IsInField start width i))
in_or_out start width i = elim (place-of start width i) [
  | inl own ↦ inl own
  | inr (inl below) ↦ inr (λ own. let h = own.0 in omega arith)
  | inr (inr above) ↦ inr (λ own. let h = own.1 in omega arith)
]

pub bits-with_field : (word start : ℕ) (l : List Bool) → start + length l ≤ 128 → bits 128 (pos (with_field word start l)) ≡ placed start l (bits 128 (pos word))
unfolding with_field
bits-with_field word start l h =
    let n = length-bits 128 (pos word) in
    bits-num_of 128 (placed start l (bits 128 (pos word))) (length-placed start l (bits 128 (pos word)) (omega arith) ∙ n)

pub put-sets : (word start : ℕ) (l : List Bool) (i : ℕ) → start + length l ≤ 128 → IsInField start (length l) i
    → bit_of (with_field word start l) i ≡ get_or l (i - start) false
unfolding bit_of
put-sets word start l i h own =
    let n = length-bits 128 (pos word) in
    ap (λ (m : List Bool). get_or m i false) (bits-with_field word start l h) ∙ placed-in start l (bits 128 (pos word)) (omega arith) i false own.0 own.1

pub put-keeps : (word start : ℕ) (l : List Bool) (i : ℕ) → start + length l ≤ 128 → ¬ (IsInField start (length l) i)
    → bit_of (with_field word start l) i ≡ bit_of word i
unfolding bit_of
put-keeps word start l i h out =
    let n = length-bits 128 (pos word) in
    let fits : start + length l ≤ length (bits 128 (pos word)) = omega arith in
    ap (λ (m : List Bool). get_or m i false) (bits-with_field word start l h) ∙ elim (place-of start (length l) i) [
      | inl own ↦ absurd (out own)
      | inr (inl below) ↦ placed-below start l (bits 128 (pos word)) fits i false below
      | inr (inr above) ↦ placed-above start l (bits 128 (pos word)) fits i false above
    ]

pub field-put : (word start : ℕ) (l : List Bool) → start + length l ≤ 128 → field_bits (with_field word start l) start (length l) ≡ l
unfolding field_bits
field-put word start l h =
    let n = length-bits 128 (pos word) in
    ap (λ (m : List Bool). take (length l) (drop start m)) (bits-with_field word start l h) ∙ items-placed start l (bits 128 (pos word)) (omega arith)

-- a field below, and one above, reads as before
pub field-put_above : (word start : ℕ) (l : List Bool) (other width : ℕ) → start + length l ≤ 128 → other + width ≤ start
    → field_bits (with_field word start l) other width ≡ field_bits word other width
unfolding field_bits
field-put_above word start l other width h g =
    let n = length-bits 128 (pos word) in
    ap (λ (m : List Bool). take width (drop other m)) (bits-with_field word start l h) ∙ items-placed_below start l (bits 128 (pos word)) (omega arith) other width g

pub field-put_below : (word start : ℕ) (l : List Bool) (other width : ℕ) → start + length l ≤ 128 → start + length l ≤ other
    → field_bits (with_field word start l) other width ≡ field_bits word other width
unfolding field_bits
field-put_below word start l other width h g =
    let n = length-bits 128 (pos word) in
    ap (λ (m : List Bool). take width (drop other m)) (bits-with_field word start l h) ∙ items-placed_above start l (bits 128 (pos word)) (omega arith) other width g

-- ---- lists of puts

abbrev Covers : ℕ → Put → Type 0
Covers i put = IsInField put.start (length put.bits) i

abbrev AreApart : Put → Put → Type 0
AreApart p q = AreDisjoint p.start (length p.bits) q.start (length q.bits)

pub puts-keep : (word : ℕ) (puts : List Put) (i : ℕ) → All IsInBounds puts → All (λ put. ¬ (Covers i put)) puts → bit_of (after_puts word puts) i ≡ bit_of word i
puts-keep word [] i f n = refl
puts-keep word (put ∷ puts) i f n =
    puts-keep (with_field word put.start put.bits) puts i (All-tail IsInBounds put puts f) (All-tail (λ p. ¬ (Covers i p)) put puts n)
    ∙ put-keeps word put.start put.bits i (All-head IsInBounds put puts f) (All-head (λ p. ¬ (Covers i p)) put puts n)

-- where the put has bit i in its field, it makes it b
abbrev Gives : ℕ → Bool → Put → Type 0
Gives i b put = Covers i put → get_or put.bits (i - put.start) false ≡ b

put-gives : (word : ℕ) (put : Put) (i : ℕ) (b : Bool) → IsInBounds put → Gives i b put → bit_of word i ≡ b → bit_of (with_field word put.start put.bits) i ≡ b
put-gives word put i b f g e = elim (in_or_out put.start (length put.bits) i) [
  | inl own ↦ put-sets word put.start put.bits i f own ∙ g own
  | inr out ↦ put-keeps word put.start put.bits i f out ∙ e
]

puts-stay : (word : ℕ) (puts : List Put) (i : ℕ) (b : Bool) → All IsInBounds puts → All (Gives i b) puts → bit_of word i ≡ b → bit_of (after_puts word puts) i ≡ b
puts-stay word [] i b f g e = e
puts-stay word (put ∷ puts) i b f g e =
    puts-stay (with_field word put.start put.bits) puts i b (All-tail IsInBounds put puts f) (All-tail (Gives i b) put puts g)
    (put-gives word put i b (All-head IsInBounds put puts f) (All-head (Gives i b) put puts g) e)

puts-become : (word : ℕ) (puts : List Put) (k : ℕ) (put : Put) (i : ℕ) (b : Bool) → All IsInBounds puts → All (Gives i b) puts
    → k < length puts → get_or puts k put ≡ put → Covers i put → bit_of (after_puts word puts) i ≡ b
puts-become word [] k put i b f g h is own = absurd (omega arith)
puts-become word (first ∷ puts) zero put i b f g h is own =
    let covers : Covers i first = subst (λ (p : Put). Covers i p) (sym is) own in
    puts-stay (with_field word first.start first.bits) puts i b (All-tail IsInBounds first puts f) (All-tail (Gives i b) first puts g)
    (put-sets word first.start first.bits i (All-head IsInBounds first puts f) covers ∙ All-head (Gives i b) first puts g covers)
puts-become word (first ∷ puts) (suc k) put i b f g h is own =
    puts-become (with_field word first.start first.bits) puts k put i b (All-tail IsInBounds first puts f) (All-tail (Gives i b) first puts g) (omega arith) is own

-- no two puts have the bit
apart-gives : (puts : List Put) (put : Put) (i : ℕ) → AllPairs AreApart puts → Contains puts put → Covers i put
    → All (Gives i (get_or put.bits (i - put.start) false)) puts
apart-gives puts put i a (k, h, is) own j d g covers =
    let at : get_or puts k d ≡ put = get_or_default puts k d put h ∙ is in
    let there : Covers i (get_or puts k d) = subst (λ (p : Put). Covers i p) (sym at) own in
    elim (cases_order j k) [
      | inl same ↦ ap (λ (p : Put). get_or p.bits (i - p.start) false) (ap (λ (n : ℕ). get_or puts n d) same ∙ at)
      | inr (inl less) ↦ absurd (a j k d less h i covers there)
      | inr (inr more) ↦ absurd (a k j d more g i there covers)
    ]

pub puts-set : (word : ℕ) (puts : List Put) (put : Put) (i : ℕ) → All IsInBounds puts → AllPairs AreApart puts → Contains puts put
    → Covers i put → bit_of (after_puts word puts) i ≡ get_or put.bits (i - put.start) false
puts-set word puts put i f a (k, h, is) own =
    puts-become word puts k put i (get_or put.bits (i - put.start) false) f (apart-gives puts put i a (k, h, is) own) h is own

-- ---- what is read back

bit-field : (word start width i : ℕ) (d : Bool) → start + width ≤ 128 → i < width → get_or (field_bits word start width) i d ≡ bit_of word (start + i)
unfolding field_bits bit_of
bit-field word start width i d h g =
    let n = length-bits 128 (pos word) in
    get_or-take width (drop start (bits 128 (pos word))) i d g ∙ get_or-drop start (bits 128 (pos word)) i d
    ∙ get_or_default (bits 128 (pos word)) (start + i) d false (omega arith)

pub length-field : (word start width : ℕ) → start + width ≤ 128 → length (field_bits word start width) ≡ width
unfolding field_bits
length-field word start width h = let n = length-bits 128 (pos word) in length-items start width (bits 128 (pos word)) (omega arith)

pub field-puts : (word : ℕ) (puts : List Put) (put : Put) → All IsInBounds puts → AllPairs AreApart puts → Contains puts put
    → field_bits (after_puts word puts) put.start (length put.bits) ≡ put.bits
field-puts word puts put f a (k, h, is) =
    let fits : IsInBounds put = subst IsInBounds is (All-get_or IsInBounds puts k put h f) in
    let n = length-field (after_puts word puts) put.start (length put.bits) fits in
    same_lists (field_bits (after_puts word puts) put.start (length put.bits)) put.bits n
    (λ i d lt. bit-field (after_puts word puts) put.start (length put.bits) i d fits (omega arith)
    ∙ puts-set word puts put (put.start + i) f a (k, h, is) (omega arith, omega arith)
    ∙ ap (λ (j : ℕ). get_or put.bits j false) (let e : put.start + i - put.start ≡ i = omega arith in e)
    ∙ get_or_default put.bits i false d (omega arith))

-- ---- any order

same_bits : (x y : ℕ) → x < 2 ^ 128 → y < 2 ^ 128 → ((i : ℕ) → bit_of x i ≡ bit_of y i) → x ≡ y
unfolding bit_of
same_bits x y h g e =
    let n = length-bits 128 (pos x) in
    let m = length-bits 128 (pos y) in
    let same : bits 128 (pos x) ≡ bits 128 (pos y) = same_lists (bits 128 (pos x)) (bits 128 (pos y)) (n ∙ sym m)
    (λ k d lt. get_or_default (bits 128 (pos x)) k d false lt ∙ e k ∙ sym (get_or_default (bits 128 (pos y)) k d false (omega arith))) in
    sym (num-bits_small 128 x h) ∙ ap num same ∙ num-bits_small 128 y g

pub with_field-lt : (word start : ℕ) (l : List Bool) → start + length l ≤ 128 → with_field word start l < 2 ^ 128
unfolding with_field
with_field-lt word start l h =
    let n = length-bits 128 (pos word) in
    num-lt_of 128 (placed start l (bits 128 (pos word))) (length-placed start l (bits 128 (pos word)) (omega arith) ∙ n)

after_puts-lt : (word : ℕ) (puts : List Put) → word < 2 ^ 128 → All IsInBounds puts → after_puts word puts < 2 ^ 128
after_puts-lt word [] h f = h
after_puts-lt word (put ∷ puts) h f =
    after_puts-lt (with_field word put.start put.bits) puts (with_field-lt word put.start put.bits (All-head IsInBounds put puts f)) (All-tail IsInBounds put puts f)

-- one of the puts has the bit, or none has
covered_or_not : (puts : List Put) (i : ℕ) → (Any (Covers i) puts) ⊎ (All (λ put. ¬ (Covers i put)) puts)
covered_or_not [] i = inr (All-nil (λ put. ¬ (Covers i put)))
covered_or_not (put ∷ puts) i = elim (in_or_out put.start (length put.bits) i) [
  | inl own ↦ inl (0, put, omega arith, refl, own)
  | inr out ↦ elim (covered_or_not puts i) [
    | inl later ↦ inl (suc later.0, later.1, omega (arith, later.2), later.3, later.4)
    | inr none ↦ inr (All-cons (λ p. ¬ (Covers i p)) put puts out none)
  ]
]

pub puts-permutation : (word : ℕ) (puts others : List Put) → word < 2 ^ 128 → All IsInBounds puts → AllPairs AreApart puts → IsPermutation puts others
    → after_puts word puts ≡ after_puts word others
puts-permutation word puts others h f a p = same_bits _ _ (after_puts-lt word puts h f) (after_puts-lt word others h fits) each
  where
    fits : All IsInBounds others
    fits = All-permutation IsInBounds puts others p f

    with_put : (i : ℕ) (put : Put) → Contains puts put → Covers i put → bit_of (after_puts word puts) i ≡ bit_of (after_puts word others) i
    with_put i put c own =
        let b : Bool = get_or put.bits (i - put.start) false in
        let there = Contains-permutation puts others put p c in
        puts-set word puts put i f a c own
        ∙ sym (puts-become word others there.0 put i b fits (All-permutation (Gives i b) puts others p (apart-gives puts put i a c own)) there.1 there.2 own)

    each : (i : ℕ) → bit_of (after_puts word puts) i ≡ bit_of (after_puts word others) i
    each i = elim (covered_or_not puts i) [
      | inl some ↦ with_put i some.1 (some.0, some.2, some.3) some.4
      | inr none ↦ puts-keep word puts i f none ∙ sym (puts-keep word others i fits (All-permutation (λ put. ¬ (Covers i put)) puts others p none))
    ]

pub puts-commute : (word : ℕ) (p q : Put) → IsInBounds p → IsInBounds q → AreApart p q → after_puts word (p ∷ q ∷ []) ≡ after_puts word (q ∷ p ∷ [])
puts-commute word p q f g a = same_bits _ _ (with_field-lt _ q.start q.bits g) (with_field-lt _ p.start p.bits f) each
  where
    each : (i : ℕ) → bit_of (with_field (with_field word p.start p.bits) q.start q.bits) i ≡ bit_of (with_field (with_field word q.start q.bits) p.start p.bits) i
    each i = elim (in_or_out p.start (length p.bits) i) [
      | inl own ↦ put-keeps (with_field word p.start p.bits) q.start q.bits i g (a i own) ∙ put-sets word p.start p.bits i f own
          ∙ sym (put-sets (with_field word q.start q.bits) p.start p.bits i f own)
      | inr not_p ↦ elim (in_or_out q.start (length q.bits) i) [
        | inl own ↦ put-sets (with_field word p.start p.bits) q.start q.bits i g own
            ∙ sym (put-keeps (with_field word q.start q.bits) p.start p.bits i f not_p ∙ put-sets word q.start q.bits i g own)
        | inr not_q ↦ put-keeps (with_field word p.start p.bits) q.start q.bits i g not_q ∙ put-keeps word p.start p.bits i f not_p
            ∙ sym (put-keeps (with_field word q.start q.bits) p.start p.bits i f not_p ∙ put-keeps word q.start q.bits i g not_q)
      ]
    ]

pub ruleset field_rules = (put-sets, put-keeps, field-put, puts-set, puts-keep, field-puts, puts-permutation, puts-commute)
