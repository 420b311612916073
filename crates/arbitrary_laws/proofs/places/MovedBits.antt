-- The bits of shifted, rotated and converted numbers, and of constants: each is a bit of the operand at another
-- place. So the laws of shifts, rotations, constant masks and conversions, also nested, have proofs like those of
-- `& | ^ !` in BitByBit.antt. Callers name the set `moved_bits`.
use Rattle.std.specs.Prelude.{Bool, List, drop, false, get_or, length, negsuc, not, pos, replicate, suc, take, true, zero, ℕ, ℤ, ◌%◌, ◌*◌, ◌+◌, ◌-◌, ◌/◌, ◌<ℤ◌, ◌<◌, ◌==◌, ◌^◌, ◌≡◌, ◌≤ℤ◌, ◌≤◌, ◌⊎◌}
use Rattle.std.proofs.Common.{ap, arith, div-add-mod', inl, inr, length-drop, pow-add, pow-suc, refl, subst, sym, true≢false, ◌∙◌}
use Rattle.std.proofs.Math.Nat.{div-div-eq-div-mul, div-eq_of_lt-le, pow-le-pow_right}
use Rattle.std.proofs.lemmas.Bool.{cases_lt}
use Rattle.std.proofs.lemmas.Bool.Decides.{Decides-int_eq}
use Rattle.std.proofs.lemmas.Grind.{low_zeros}
use Rattle.std.proofs.lemmas.Int.{ints}
use Rattle.std.proofs.lemmas.List.{get_or-append_right, get_or-drop, get_or-map, get_or-replicate, get_or-take, get_or_append_left, length-replicate}
use Rattle.std.proofs.lemmas.Nat.{pow_pos}
use Rattle.arbitrary_base.specs.BitList.{bits, fill, shl, shr, val}
use Rattle.arbitrary_base.specs.Operation.{bitwise_or, rotated_left, rotated_right, shifted_left, shifted_right}
use Rattle.arbitrary_base.specs.Range.{InRange}
use Rattle.arbitrary_base.specs.Residue.{wrap}
use Rattle.arbitrary_base.proofs.bit_lists.Movement.{length-rotl, length-rotr, length-shl, length-shr, rotr}
use Rattle.arbitrary_base.proofs.bit_lists.TwosComplement.{bits-negsuc, bits-wrap, val-num}
use Rattle.arbitrary_base.proofs.bit_lists.UnsignedNumber.{length-bits}
use Rattle.arbitrary_base.proofs.modular.Residue.{wrap-in_range}
use Rattle.arbitrary_base.proofs.operations.Definition.{bits-left, bits-right, bits-rotl, left-is, right-is, rotl-is, rotr-is}
use Rattle.arbitrary_laws.proofs.bits.BitByBit.{Compared, Spot, and-compared, at, bit_near, bit_near-and, bit_near-is, bit_near-listed, bit_near-not, bit_near-or, bit_near-xor, bit_near-zero, by_bit, compared-and, compared-not, compared-or, compared-xor, index, index-lowest, lowest, not-compared, or-compared, same, width-free, xor-compared}
use Rattle.arbitrary_laws.proofs.rotations.RotatedLists.{bits-rotr}

-- ---- two numbers of which one is moved

val-in_range : (s : Bool) (B : ℕ) (l : List Bool) → 1 ≤ B → length l ≡ B → InRange s B (val s l)
val-in_range s B l h e = subst (InRange s B) (sym (val-num s B l e)) (wrap-in_range s B _ h)

module _ (s : Bool) (B : ℕ) (x z : ℤ) (k : ℕ) (some : 1 ≤ B) (within : k ≤ B) (f : InRange s B z) where
  left-in_range : InRange s B (shifted_left s B x k)
  left-in_range = let n = length-bits B x in subst (InRange s B) (sym (left-is s B x k)) (val-in_range s B _ some (length-shl (bits B x) k (omega arith) ∙ n))

  right-in_range : InRange s B (shifted_right s B x k)
  right-in_range = let n = length-bits B x in subst (InRange s B) (sym (right-is s B x k)) (val-in_range s B _ some (length-shr (bits B x) k _ (omega arith) ∙ n))

  rotl-in_range : InRange s B (rotated_left s B x k)
  rotl-in_range = subst (InRange s B) (sym (rotl-is s B x k)) (val-in_range s B _ some (length-rotl (bits B x) k ∙ length-bits B x))

  rotr-in_range : InRange s B (rotated_right s B x k)
  rotr-in_range = subst (InRange s B) (sym (rotr-is s B x k)) (val-in_range s B _ some (length-rotr (bits B x) k ∙ length-bits B x))

  pub left-compared : Compared B (shifted_left s B x k) z
  left-compared = same s B _ z some left-in_range f

  pub compared-left : Compared B z (shifted_left s B x k)
  compared-left = same s B z _ some f left-in_range

  pub right-compared : Compared B (shifted_right s B x k) z
  right-compared = same s B _ z some right-in_range f

  pub compared-right : Compared B z (shifted_right s B x k)
  compared-right = same s B z _ some f right-in_range

  pub rotl-compared : Compared B (rotated_left s B x k) z
  rotl-compared = same s B _ z some rotl-in_range f

  pub compared-rotl : Compared B z (rotated_left s B x k)
  compared-rotl = same s B z _ some f rotl-in_range

  pub rotr-compared : Compared B (rotated_right s B x k) z
  rotr-compared = same s B _ z some rotr-in_range f

  pub compared-rotr : Compared B z (rotated_right s B x k)
  compared-rotr = same s B z _ some f rotr-in_range

-- ---- shifts and rotations

module _ (l : List Bool) (k i : ℕ) (g : k ≤ length l) (h : i < length l) where
  left-below : i < k → get_or (shl l k) i false ≡ false
  left-below b =
      let r = length-replicate k false in
      get_or_append_left (replicate k false) (take (length l - k) l) false i (omega arith) ∙ get_or-replicate k i false false b

  left-above : k ≤ i → get_or (shl l k) i false ≡ get_or l (i - k) false
  left-above b = get_or-append_right (replicate k false) (take (length l - k) l) k i false (length-replicate k false) b ∙ get_or-take (length l - k) l (i - k) false (omega arith)

  right-below : (f : Bool) → i + k < length l → get_or (shr l k f) i false ≡ get_or l (i + k) false
  right-below f b =
      let n = length-drop k l in
      get_or_append_left (drop k l) (replicate k f) false i (omega arith) ∙ get_or-drop k l i false ∙ ap (λ (j : ℕ). get_or l j false) (omega arith)

  right-above : (f : Bool) → length l ≤ i + k → get_or (shr l k f) i false ≡ f
  right-above f b = get_or-append_right (drop k l) (replicate k f) (length l - k) i false (length-drop k l) (omega arith) ∙ get_or-replicate k (i - (length l - k)) f false (omega arith)

  turned-below : i + k < length l → get_or (rotr l k) i false ≡ get_or l (i + k) false
  turned-below b =
      let n = length-drop k l in
      get_or_append_left (drop k l) (take k l) false i (omega arith) ∙ get_or-drop k l i false ∙ ap (λ (j : ℕ). get_or l j false) (omega arith)

  turned-above : length l ≤ i + k → get_or (rotr l k) i false ≡ get_or l (i + k - length l) false
  turned-above b =
      get_or-append_right (drop k l) (take k l) (length l - k) i false (length-drop k l) (omega arith) ∙ get_or-take k l (i - (length l - k)) false (omega arith)
      ∙ ap (λ (j : ℕ). get_or l j false) (omega arith)

-- that a place is below k, or is not
split : (i k : ℕ) → (i < k) ⊎ (k ≤ i)
split i k = cases_lt i k

module _ (B : ℕ) (p : Spot) (u v : ℕ) (l : v ≤ index p + u) (h : index p + u < B + v) (x : ℤ) (k : ℕ) (g : k ≤ B) where
  place : ℕ
  place = index p + u - v

  placed : index p + u ≡ place + v
  unfolding place
  placed = omega arith

  inside : place < B
  unfolding place
  inside = omega arith

  listed_here : (z : ℤ) → bit_near z p u v ≡ get_or (bits B z) place false
  unfolding place
  listed_here z = bit_near-listed B z p u v _ refl (omega arith)

  pub bit-left : (s : Bool) → ((bit_near (shifted_left s B x k) p u v ≡ false) × (index p + u < k + v))
      ⊎ ((bit_near (shifted_left s B x k) p u v ≡ bit_near x p (u - k) (v + (k - u))) × (k + v ≤ index p + u))
  bit-left s =
      let n = length-bits B x in
      let e = placed in
      let w = inside in
      let m : bit_near (shifted_left s B x k) p u v ≡ get_or (shl (bits B x) k) place false = listed_here _ ∙ ap (λ (q : List Bool). get_or q place false) (bits-left s B x k g) in
      elim (split place k) [
        | inl b ↦ inl (m ∙ left-below (bits B x) k place (omega arith) (omega arith) b, omega (arith, b))
        | inr b ↦ inr (
          m ∙ left-above (bits B x) k place (omega arith) (omega arith) b ∙ sym (bit_near-listed B x p (u - k) (v + (k - u)) (place - k) (omega (arith, b)) (omega (arith, b))),
          omega (arith, b),
        )
      ]

  pub bit-right : ((bit_near (shifted_right false B x k) p u v ≡ bit_near x p (u + (k - v)) (v - k)) × (index p + u + k < B + v))
      ⊎ ((bit_near (shifted_right false B x k) p u v ≡ false) × (B + v ≤ index p + u + k))
  bit-right =
      let n = length-bits B x in
      let e = placed in
      let w = inside in
      let m : bit_near (shifted_right false B x k) p u v ≡ get_or (shr (bits B x) k false) place false = listed_here _ ∙ ap (λ (q : List Bool). get_or q place false) (bits-right false B x k g) in
      elim (split (place + k) B) [
        | inl b ↦ inl (
          m ∙ right-below (bits B x) k place (omega arith) (omega arith) false (omega (arith, b)) ∙ sym (bit_near-listed B x p (u + (k - v)) (v - k) (place + k) (omega arith) b),
          omega (arith, b),
        )
        | inr b ↦ inr (m ∙ right-above (bits B x) k place (omega arith) (omega arith) false (omega (arith, b)), omega (arith, b))
      ]

  pub bit-right_signed : ((bit_near (shifted_right true B x k) p u v ≡ bit_near x p (u + (k - v)) (v - k)) × (index p + u + k < B + v))
      ⊎ ((bit_near (shifted_right true B x k) p u v ≡ bit_near x lowest (B - 1) 0) × (B + v ≤ index p + u + k))
  bit-right_signed =
      let z = index-lowest in
      let n = length-bits B x in
      let e = placed in
      let w = inside in
      let m : bit_near (shifted_right true B x k) p u v ≡ get_or (shr (bits B x) k (fill true (bits B x))) place false = listed_here _ ∙ ap (λ (q : List Bool). get_or q place false) (bits-right true B x k g) in
      elim (split (place + k) B) [
        | inl b ↦ inl (
          m ∙ right-below (bits B x) k place (omega arith) (omega arith) _ (omega (arith, b)) ∙ sym (bit_near-listed B x p (u + (k - v)) (v - k) (place + k) (omega arith) b),
          omega (arith, b),
        )
        | inr b ↦ inr (
          m ∙ right-above (bits B x) k place (omega arith) (omega arith) _ (omega (arith, b)) ∙ ap (λ (j : ℕ). get_or (bits B x) (j - 1) false) n
              ∙ sym (bit_near-listed B x lowest (B - 1) 0 (B - 1) (omega arith) (omega arith)),
          omega (arith, b),
        )
      ]

  turned-left : (s : Bool) → bit_near (rotated_left s B x k) p u v ≡ get_or (rotr (bits B x) (B - k)) place false
  turned-left s =
      listed_here _ ∙ ap (λ (q : List Bool). get_or q place false) (bits-rotl s B x k)
      ∙ ap (λ (j : ℕ). get_or (rotr (bits B x) (j - k)) place false) (length-bits B x)

  pub bit-rotl : (s : Bool) → ((bit_near (rotated_left s B x k) p u v ≡ bit_near x p (u + (B - k - v)) (v - (B - k))) × (index p + u < k + v))
      ⊎ ((bit_near (rotated_left s B x k) p u v ≡ bit_near x p (u - k) (v + (k - u))) × (k + v ≤ index p + u))
  bit-rotl s =
      let n = length-bits B x in
      let e = placed in
      let w = inside in
      elim (split place k) [
        | inl b ↦ inl (
          turned-left s ∙ turned-below (bits B x) (B - k) place (omega arith) (omega arith) (omega (arith, b))
              ∙ sym (bit_near-listed B x p (u + (B - k - v)) (v - (B - k)) (place + (B - k)) (omega arith) (omega (arith, b))),
          omega (arith, b),
        )
        | inr b ↦ inr (
          turned-left s ∙ turned-above (bits B x) (B - k) place (omega arith) (omega arith) (omega (arith, b))
              ∙ ap (λ (j : ℕ). get_or (bits B x) j false) (let i : place + (B - k) - length (bits B x) ≡ place - k = omega (arith, b) in i)
              ∙ sym (bit_near-listed B x p (u - k) (v + (k - u)) (place - k) (omega (arith, b)) (omega (arith, b))),
          omega (arith, b),
        )
      ]

  pub bit-rotr : (s : Bool) → ((bit_near (rotated_right s B x k) p u v ≡ bit_near x p (u + (k - v)) (v - k)) × (index p + u + k < B + v))
      ⊎ ((bit_near (rotated_right s B x k) p u v ≡ bit_near x p (u - (B - k)) (v + (B - k - u))) × (B + v ≤ index p + u + k))
  bit-rotr s =
      let n = length-bits B x in
      let e = placed in
      let w = inside in
      let m : bit_near (rotated_right s B x k) p u v ≡ get_or (rotr (bits B x) k) place false = listed_here _ ∙ ap (λ (q : List Bool). get_or q place false) (bits-rotr s B x k) in
      elim (split (place + k) B) [
        | inl b ↦ inl (
          m ∙ turned-below (bits B x) k place (omega arith) (omega arith) (omega (arith, b)) ∙ sym (bit_near-listed B x p (u + (k - v)) (v - k) (place + k) (omega arith) b),
          omega (arith, b),
        )
        | inr b ↦ inr (
          m ∙ turned-above (bits B x) k place (omega arith) (omega arith) (omega (arith, b))
              ∙ ap (λ (j : ℕ). get_or (bits B x) j false) (let i : place + k - length (bits B x) ≡ place + k - B = omega arith in i)
              ∙ sym (bit_near-listed B x p (u - (B - k)) (v + (B - k - u)) (place + k - B) (omega (arith, b)) (omega (arith, b))),
          omega (arith, b),
        )
      ]

-- ---- a number that is written out

written : (i n : ℕ) → at (pos n) i ≡ (n / 2 ^ i % 2 == 1)
unfolding bits
written zero n = ap (λ (m : ℕ). m % 2 == 1) (let e : n ≡ n / 2 ^ 0 = omega arith in e)
written (suc i) n =
    written i (n / 2)
    ∙ ap (λ (m : ℕ). m % 2 == 1) (div-div-eq-div-mul n 2 (2 ^ i) ∙ ap (λ (m : ℕ). n / m) (let p = pow-suc 2 i in let e : 2 * 2 ^ i ≡ 2 ^ suc i = omega arith in e))

complemented : (i n : ℕ) → at (negsuc n) i ≡ not (at (pos n) i)
complemented i n = ap (λ (l : List Bool). get_or l i false) (bits-negsuc (suc i) n)
    ∙ get_or-map not (bits (suc i) (pos n)) i false false (omega (arith, length-bits (suc i) (pos n)))

pub bit-negative : (n : ℕ) (p : Spot) (u v : ℕ)
    → ((bit_near (negsuc n) p u v ≡ false) × (bit_near (pos n) p u v ≡ true)) ⊎ ((bit_near (negsuc n) p u v ≡ true) × (bit_near (pos n) p u v ≡ false))
bit-negative n p u v = by_bit (λ a b. not a) _ true _ (bit_near-is (negsuc n) p u v ∙ complemented _ n ∙ ap not (sym (bit_near-is (pos n) p u v)))

power : (i j : ℕ) → i ≤ j → 2 ^ j ≡ 2 ^ (j - i) * 2 ^ i
power i j h = ap (λ (k : ℕ). 2 ^ k) (let e : j ≡ (j - i) + i = omega arith in e) ∙ pow-add 2 (j - i) i

even : (n i j : ℕ) → i < j → n % 2 ^ j ≡ 0 → n / 2 ^ i % 2 ≡ 0
even n i j h z =
    let c = n / 2 ^ j in
    let p = pow_pos i in
    let e : n ≡ c * 2 ^ j = omega (arith, div-add-mod' n (2 ^ j)) in
    let d : n ≡ c * 2 ^ (j - i) * 2 ^ i = e ∙ ap (λ (m : ℕ). c * m) (power i j (omega arith)) ∙ sym (mul-assoc c (2 ^ (j - i)) (2 ^ i)) in
    let q : n / 2 ^ i ≡ c * 2 ^ (j - i) = div-eq_of_lt-le (2 ^ i) (omega arith) (omega arith) in
    let t : 2 ^ (j - i) ≡ 2 ^ (j - i - 1) * 2 = power 1 (j - i) (omega arith) in
    ap (λ (m : ℕ). m % 2) (q ∙ ap (λ (m : ℕ). c * m) t) ∙ doubled c (2 ^ (j - i - 1))
  where
    mul-assoc : (a b c : ℕ) → a * b * c ≡ a * (b * c)
    mul-assoc a b c = grind arith

    doubled : (a b : ℕ) → a * (b * 2) % 2 ≡ 0
    doubled a b = let e : a * (b * 2) ≡ a * b * 2 = grind arith in omega arith

odd : (m i r : ℕ) → i < r → (m + 1) % 2 ^ r ≡ 0 → m / 2 ^ i % 2 ≡ 1
odd m i r h z =
    let c = (m + 1) / 2 ^ r in
    let p = pow_pos i in
    let e : m + 1 ≡ c * 2 ^ r = omega (arith, div-add-mod' (m + 1) (2 ^ r)) in
    let t : 2 ^ (r - i) ≡ 2 ^ (r - i - 1) * 2 = power 1 (r - i) (omega arith) in
    let d : m + 1 ≡ c * 2 ^ (r - i - 1) * 2 * 2 ^ i = e ∙ ap (λ (k : ℕ). c * k) (power i r (omega arith)) ∙ ap (λ (k : ℕ). c * (k * 2 ^ i)) t ∙ regroup c (2 ^ (r - i - 1)) (2 ^ i) in
    last m (c * 2 ^ (r - i - 1)) (2 ^ i) p d
  where
    regroup : (a b c : ℕ) → a * (b * 2 * c) ≡ a * b * 2 * c
    regroup a b c = grind arith

    last : (m a k : ℕ) → 1 ≤ k → m + 1 ≡ a * 2 * k → m / k % 2 ≡ 1
    last m zero k h e = absurd (omega arith)
    last m (suc a) k h e =
        let s : suc a * 2 * k ≡ (a * 2 + 1) * k + k = grind arith in
        let q : m / k ≡ a * 2 + 1 = div-eq_of_lt-le k (omega arith) (omega arith) in
        omega arith

high-kept : (n i j : ℕ) → j ≤ i → n / 2 ^ j * 2 ^ j / 2 ^ i ≡ n / 2 ^ i
high-kept n i j h =
    let p = pow_pos j in
    let m : n / 2 ^ j * 2 ^ j / 2 ^ j ≡ n / 2 ^ j = div-eq_of_lt-le (2 ^ j) (omega arith) (omega arith) in
    let s : 2 ^ i ≡ 2 ^ j * 2 ^ (i - j) = power j i h ∙ (let a = 2 ^ (i - j) in let b = 2 ^ j in grind arith) in
    ap (λ (k : ℕ). n / 2 ^ j * 2 ^ j / k) s ∙ sym (div-div-eq-div-mul (n / 2 ^ j * 2 ^ j) (2 ^ j) (2 ^ (i - j)))
    ∙ ap (λ (k : ℕ). k / 2 ^ (i - j)) m ∙ div-div-eq-div-mul n (2 ^ j) (2 ^ (i - j)) ∙ ap (λ (k : ℕ). n / k) (sym s)

-- the ones of a written number come in runs: its lowest run, and what is above it
module _ (n : ℕ) (p : Spot) (u v : ℕ) (l : v ≤ index p + u) (e : suc n % 2 ^ low_zeros 128 (suc n) ≡ 0)
    (f : (suc n / 2 ^ low_zeros 128 (suc n) + 1) % 2 ^ low_zeros 128 (suc n / 2 ^ low_zeros 128 (suc n) + 1) ≡ 0) where
  abbrev from : ℕ
  from = low_zeros 128 (suc n)

  abbrev to : ℕ
  to = low_zeros 128 (suc n) + low_zeros 128 (suc n / 2 ^ low_zeros 128 (suc n) + 1)

  pub bit-written : ((bit_near (pos (suc n)) p u v ≡ false) × (index p + u < from + v))
      ⊎ (((bit_near (pos (suc n)) p u v ≡ true) × (from + v ≤ index p + u) × (index p + u < to + v))
      ⊎ ((bit_near (pos (suc n)) p u v ≡ bit_near (pos (suc n / 2 ^ to * 2 ^ to)) p u v) × (to + v ≤ index p + u)))
  bit-written =
      let i = index p + u - v in
      let a = low_zeros 128 (suc n) in
      let r = low_zeros 128 (suc n / 2 ^ a + 1) in
      elim (cases_lt i a) [
        | inl b ↦ inl (bit_near-is _ p u v ∙ written i (suc n) ∙ ap (λ (m : ℕ). m == 1) (even (suc n) i a b e), omega (arith, b))
        | inr b ↦ elim (cases_lt i (a + r)) [
          | inl c ↦ inr (inl (
            bit_near-is _ p u v ∙ written i (suc n)
                ∙ ap (λ (m : ℕ). m % 2 == 1) (ap (λ (m : ℕ). suc n / m) (power a i b ∙ turn (2 ^ (i - a)) (2 ^ a)) ∙ sym (div-div-eq-div-mul (suc n) (2 ^ a) (2 ^ (i - a))))
                ∙ ap (λ (m : ℕ). m == 1) (odd (suc n / 2 ^ a) (i - a) r (omega (arith, b, c)) f),
            omega (arith, b),
            omega (arith, c),
          ))
          | inr c ↦ inr (inr (
            bit_near-is _ p u v ∙ written i (suc n) ∙ ap (λ (m : ℕ). m % 2 == 1) (sym (high-kept (suc n) i (a + r) c))
                ∙ sym (bit_near-is _ p u v ∙ written i (suc n / 2 ^ (a + r) * 2 ^ (a + r))),
            omega (arith, c),
          ))
        ]
      ]
    where
      turn : (a b : ℕ) → a * b ≡ b * a
      turn a b = grind arith

-- ---- conversions

module _ (s : Bool) (B : ℕ) (x z : ℤ) (some : 1 ≤ B) (f : InRange s B z) where
  pub wrap-compared : Compared B (wrap s B x) z
  wrap-compared = same s B _ z some (wrap-in_range s B x some) f

  pub compared-wrap : Compared B z (wrap s B x)
  compared-wrap = same s B z _ some f (wrap-in_range s B x some)

none-above : (A i : ℕ) (y : ℤ) → InRange false A y → A ≤ i → at y i ≡ false
none-above A i (negsuc n) f h = let l = f.low in absurd (omega (arith, ints))
none-above A i (pos n) f h =
    let t = f.high in
    let p = pow_pos A in
    let q : 2 ^ A ≤ 2 ^ i = pow-le-pow_right (omega arith) h in
    let z : n / 2 ^ i ≡ 0 = div-eq_of_lt-le (2 ^ i) (omega arith) (omega (arith, ints)) in
    written i n ∙ ap (λ (m : ℕ). m % 2 == 1) z

sign-above : (A i j : ℕ) (y : ℤ) → InRange true A y → A - 1 ≤ i → A - 1 ≤ j → at y i ≡ at y j
sign-above A i j (pos n) f h g =
    let p = pow_pos (A - 1) in
    let t = f.high in
    let r : InRange false (A - 1) (pos n) = record { low = omega (arith, ints); high = omega (arith, ints) } in
    none-above (A - 1) i (pos n) r h ∙ sym (none-above (A - 1) j (pos n) r g)
sign-above A i j (negsuc n) f h g =
    let p = pow_pos (A - 1) in
    let t = f.low in
    let r : InRange false (A - 1) (pos n) = record { low = omega (arith, ints); high = omega (arith, ints) } in
    complemented i n ∙ ap not (none-above (A - 1) i (pos n) r h ∙ sym (none-above (A - 1) j (pos n) r g)) ∙ sym (complemented j n)

module _ (A : ℕ) (x : ℤ) (p : Spot) (u v : ℕ) (some : 1 ≤ A) (l : v ≤ index p + u) where
  kept-below : (s : Bool) (i : ℕ) → i < A → at (wrap s A x) i ≡ at x i
  kept-below s i h = sym (width-free A i (wrap s A x) h) ∙ ap (λ (m : List Bool). get_or m i false) (bits-wrap s A x) ∙ width-free A i x h

  pub bit-wrap : ((bit_near (wrap false A x) p u v ≡ bit_near x p u v) × (index p + u < A + v)) ⊎ ((bit_near (wrap false A x) p u v ≡ false) × (A + v ≤ index p + u))
  bit-wrap =
      let i = index p + u - v in
      elim (cases_lt i A) [
        | inl b ↦ inl (bit_near-is _ p u v ∙ kept-below false i b ∙ sym (bit_near-is x p u v), omega (arith, b))
        | inr b ↦ inr (bit_near-is _ p u v ∙ none-above A i _ (wrap-in_range false A x some) b, omega (arith, b))
      ]

  pub bit-wrap_signed : ((bit_near (wrap true A x) p u v ≡ bit_near x p u v) × (index p + u < A + v))
      ⊎ ((bit_near (wrap true A x) p u v ≡ bit_near x lowest (A - 1) 0) × (A + v ≤ index p + u))
  bit-wrap_signed =
      let i = index p + u - v in
      elim (cases_lt i A) [
        | inl b ↦ inl (bit_near-is _ p u v ∙ kept-below true i b ∙ sym (bit_near-is x p u v), omega (arith, b))
        | inr b ↦ inr (
          bit_near-is _ p u v ∙ sign-above A i (A - 1) _ (wrap-in_range true A x some) (omega (arith, b)) (omega arith)
              ∙ kept-below true (A - 1) (omega arith) ∙ ap (at x) (let z = index-lowest in let e : A - 1 ≡ index lowest + (A - 1) - 0 = omega arith in e) ∙ sym (bit_near-is x lowest (A - 1) 0),
          omega (arith, b),
        )
      ]

-- ---- two fields side by side, and what is below them

module _ (B : ℕ) (x y : ℤ) (k : ℕ) (p : Spot) (u v : ℕ) (l : v ≤ index p + u) (h : index p + u < B + v) (within : k ≤ B) (low : pos 0 ≤ℤ y) (high : y <ℤ pos (2 ^ k)) where
  none-there : k + v ≤ index p + u → bit_near y p u v ≡ false
  none-there g =
      let w : InRange false k y = record { low = low; high = omega (arith, ints) } in
      bit_near-is y p u v ∙ none-above k (index p + u - v) y w (omega arith)

  pub bit-beside : ((bit_near (bitwise_or false B (shifted_left false B x k) y) p u v ≡ bit_near y p u v) × (index p + u < k + v))
      ⊎ ((bit_near (bitwise_or false B (shifted_left false B x k) y) p u v ≡ bit_near x p (u - k) (v + (k - u))) × (k + v ≤ index p + u))
  bit-beside = elim (bit-left B p u v l h x k within false) [
    | inl d ↦ elim (bit_near-or B p u v l h false (shifted_left false B x k) y) [
      | inl e ↦ absurd (true≢false (sym e.1 ∙ d.0))
      | inr e ↦ inl (e.0, d.1)
    ]
    | inr d ↦ elim (bit_near-or B p u v l h false (shifted_left false B x k) y) [
      | inl e ↦ inr (e.0 ∙ sym e.1 ∙ d.0, d.1)
      | inr e ↦ inr (e.0 ∙ none-there d.1 ∙ sym e.1 ∙ d.0, d.1)
    ]
  ]

  pub bit-below : (z : ℤ) → ((bit_near (bitwise_or false B (bitwise_or false B z (shifted_left false B x k)) y) p u v ≡ bit_near (bitwise_or false B z (shifted_left false B x k)) p u v) × (k + v ≤ index p + u))
      ⊎ (index p + u < k + v)
  bit-below z = elim (cases_lt (index p + u) (k + v)) [
    | inl g ↦ inr g
    | inr g ↦ elim (bit_near-or B p u v l h false (bitwise_or false B z (shifted_left false B x k)) y) [
      | inl e ↦ inl (e.0 ∙ sym e.1, g)
      | inr e ↦ inl (e.0 ∙ none-there g ∙ sym e.1, g)
    ]
  ]

pub ruleset moved_bits = (Decides-int_eq, and-compared, compared-and, or-compared, compared-or, xor-compared, compared-xor, not-compared, compared-not, left-compared, compared-left, right-compared, compared-right, rotl-compared, compared-rotl, rotr-compared, compared-rotr, wrap-compared, compared-wrap, bit_near-and, bit_near-or, bit_near-xor, bit_near-not, bit_near-zero, bit-left, bit-right, bit-right_signed, bit-rotl, bit-rotr, bit-written, bit-negative, bit-wrap, bit-wrap_signed, bit-beside, bit-below)
