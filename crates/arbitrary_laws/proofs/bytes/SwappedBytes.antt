-- A number with its bytes in reverse order, under `&`, `|`, `^`, `!`, the reversal of its bits, their count, and
-- `==`. Callers name the set `swapped_words`.
use Rattle.std.specs.Bool.{beq}
use Rattle.std.specs.Int.{bytes_low_first}
use Rattle.std.specs.List.{count_by}
use Rattle.std.specs.Ordering.{int_eq}
use Rattle.std.specs.Prelude.{Bool, List, [], drop, get_or, length, map, not, pos, reverse, suc, take, true, zero, ℕ, ℤ, ◌&&◌, ◌*◌, ◌++◌, ◌-◌, ◌/◌, ◌<◌, ◌^◌, ◌||◌, ◌∷◌, ◌≡◌, ◌≤◌, ◌⊎◌}
use Rattle.std.proofs.Common.{ap, append_assoc, ap₂, arith, inl, inr, length-append, length-drop, length-take, mod-lt, refl, sym, ◌∙◌}
use Rattle.std.proofs.lemmas.Bool.{cases_lt}
use Rattle.std.proofs.lemmas.Bool.Decides.{Decides-int_eq, same_from_decides}
use Rattle.std.proofs.lemmas.List.{append-nil, drop-append-le, drop_at, get_or-reverse, get_or_past, length-reverse, map-append, reverse-append, take-append-drop, take-append-le, take_all, take_at}
use Rattle.arbitrary_base.specs.BitList.{bits, num, val}
use Rattle.arbitrary_base.specs.ByteLists.{bytes, bytes_number}
use Rattle.arbitrary_base.specs.Operation.{bitwise_and, bitwise_not, bitwise_or, bitwise_xor, reversed}
use Rattle.arbitrary_base.specs.Range.{InRange}
use Rattle.arbitrary_base.specs.Residue.{residue, wrap}
use Rattle.arbitrary_base.proofs.bit_lists.Pointwise.{append-pointwise, length-pointwise, pointwise}
use Rattle.arbitrary_base.proofs.bit_lists.TwosComplement.{bits-val, num-bits_residue, val-num}
use Rattle.arbitrary_base.proofs.bit_lists.UnsignedNumber.{length-bits, length-not, num-append, num-bits_small, same_num}
use Rattle.arbitrary_base.proofs.bytes.NumberOfBytes.{bytes_number-bytes, length-bytes}
use Rattle.arbitrary_base.proofs.operations.Definition.{and-is, bits-and, bits-not, bits-or, bits-reversed, bits-xor, by-bits, not-is, of-bits, or-is, reversed-is, xor-is}
use Rattle.arbitrary_calls.proofs.counts.RunBesideCount.{append-ones}

-- n eights of items, the last eight first
abbrev eights_turned : ℕ → List Bool → List Bool
eights_turned zero l = []
eights_turned (suc n) l = eights_turned n (drop 8 l) ++ take 8 l

-- the number that has the bytes of x in the other order
unfoldable pub swapped : Bool → ℕ → ℕ → ℤ → ℤ
swapped s B n x = val s (eights_turned n (bits B x))

-- ---- eights in the other order

length-turned : (n : ℕ) (l : List Bool) → length l ≡ 8 * n → length (eights_turned n l) ≡ 8 * n
length-turned zero l e = refl
length-turned (suc n) l e =
    let d = length-drop 8 l in
    let r = length-turned n (drop 8 l) (omega arith) in
    length-append (eights_turned n (drop 8 l)) (take 8 l) ∙ omega (arith, length-take 8 l)

first-to_end : (n : ℕ) (t r : List Bool) → length t ≡ 8 → eights_turned (suc n) (t ++ r) ≡ eights_turned n r ++ t
first-to_end n t r e = ap₂ (λ (p q : List Bool). eights_turned n p ++ q) (drop_at t r 8 e) (take_at t r 8 e)

last-to_front : (n : ℕ) (r t : List Bool) → length r ≡ 8 * n → length t ≡ 8 → eights_turned (suc n) (r ++ t) ≡ t ++ eights_turned n r
last-to_front zero [] t e f = take_all 8 t (omega arith) ∙ sym (append-nil t)
last-to_front zero (b ∷ r) t e f = absurd (omega arith)
last-to_front (suc n) r t e f =
    let d = length-drop 8 r in
    ap₂ (λ (p q : List Bool). eights_turned (suc n) p ++ q) (drop-append-le 8 r t (omega arith)) (take-append-le 8 r t (omega arith))
    ∙ ap (λ (p : List Bool). p ++ take 8 r) (last-to_front n (drop 8 r) t (omega arith) f) ∙ append_assoc t (eights_turned n (drop 8 r)) (take 8 r)

turned-twice : (n : ℕ) (l : List Bool) → length l ≡ 8 * n → eights_turned n (eights_turned n l) ≡ l
turned-twice zero [] e = refl
turned-twice zero (b ∷ l) e = absurd (omega arith)
turned-twice (suc n) l e =
    let d = length-drop 8 l in
    last-to_front n (eights_turned n (drop 8 l)) (take 8 l) (length-turned n (drop 8 l) (omega arith)) (omega (arith, length-take 8 l))
    ∙ ap (λ (p : List Bool). take 8 l ++ p) (turned-twice n (drop 8 l) (omega arith)) ∙ take-append-drop 8 l

turned-reverse : (n : ℕ) (l : List Bool) → length l ≡ 8 * n → reverse (eights_turned n l) ≡ eights_turned n (reverse l)
turned-reverse zero [] e = refl
turned-reverse zero (b ∷ l) e = absurd (omega arith)
turned-reverse (suc n) l e =
    let d = length-drop 8 l in
    let t = length-take 8 l in
    reverse-append (eights_turned n (drop 8 l)) (take 8 l)
    ∙ ap (λ (p : List Bool). reverse (take 8 l) ++ p) (turned-reverse n (drop 8 l) (omega arith))
    ∙ sym (ap (eights_turned (suc n)) (ap reverse (sym (take-append-drop 8 l)) ∙ reverse-append (take 8 l) (drop 8 l))
    ∙ last-to_front n (reverse (drop 8 l)) (reverse (take 8 l)) (length-reverse (drop 8 l) ∙ omega arith) (length-reverse (take 8 l) ∙ omega arith))

turned-not : (n : ℕ) (l : List Bool) → length l ≡ 8 * n → eights_turned n (map not l) ≡ map not (eights_turned n l)
turned-not zero l e = refl
turned-not (suc n) l e =
    let d = length-drop 8 l in
    let t = length-take 8 l in
    ap (λ (p : List Bool). eights_turned (suc n) (map not p)) (sym (take-append-drop 8 l))
    ∙ ap (eights_turned (suc n)) (map-append not (take 8 l) (drop 8 l))
    ∙ first-to_end n (map not (take 8 l)) (map not (drop 8 l)) (length-not (take 8 l) ∙ omega arith)
    ∙ ap (λ (p : List Bool). p ++ map not (take 8 l)) (turned-not n (drop 8 l) (omega arith))
    ∙ sym (map-append not (eights_turned n (drop 8 l)) (take 8 l))

turned-ones : (n : ℕ) (l : List Bool) → length l ≡ 8 * n → count_by (λ b. b) (eights_turned n l) ≡ count_by (λ b. b) l
turned-ones zero [] e = refl
turned-ones zero (b ∷ l) e = absurd (omega arith)
turned-ones (suc n) l e =
    let d = length-drop 8 l in
    let both : count_by (λ b. b) (take 8 l ++ drop 8 l) ≡ count_by (λ b. b) l = ap (count_by (λ b. b)) (take-append-drop 8 l) in
    omega (arith, append-ones (eights_turned n (drop 8 l)) (take 8 l), append-ones (take 8 l) (drop 8 l), turned-ones n (drop 8 l) (omega arith), both)

turned-pointwise : (f : Bool → Bool → Bool) (n : ℕ) (l m : List Bool) → length l ≡ 8 * n → length m ≡ 8 * n
    → eights_turned n (pointwise f l m) ≡ pointwise f (eights_turned n l) (eights_turned n m)
turned-pointwise f zero l m e g = refl
turned-pointwise f (suc n) l m e g =
    let d = length-drop 8 l in
    let t = length-take 8 l in
    let i = length-drop 8 m in
    let u = length-take 8 m in
    ap₂ (λ (p q : List Bool). eights_turned (suc n) (pointwise f p q)) (sym (take-append-drop 8 l)) (sym (take-append-drop 8 m))
    ∙ ap (eights_turned (suc n)) (append-pointwise f (take 8 l) (drop 8 l) (take 8 m) (drop 8 m) (omega arith))
    ∙ first-to_end n _ _ (length-pointwise f (take 8 l) (take 8 m) (omega arith) ∙ omega arith)
    ∙ ap (λ (p : List Bool). p ++ pointwise f (take 8 l) (take 8 m)) (turned-pointwise f n (drop 8 l) (drop 8 m) (omega arith) (omega arith))
    ∙ sym (append-pointwise f (eights_turned n (drop 8 l)) (take 8 l) (eights_turned n (drop 8 m)) (take 8 m)
    (length-turned n (drop 8 l) (omega arith) ∙ sym (length-turned n (drop 8 m) (omega arith))))

-- ---- the bits of a list of bytes

bits_of : List ℕ → List Bool
bits_of [] = []
bits_of (b ∷ l) = bits 8 (pos b) ++ bits_of l

length-of : (l : List ℕ) → length (bits_of l) ≡ 8 * length l
unfolding bits_of
length-of [] = refl
length-of (b ∷ l) = length-append (bits 8 (pos b)) (bits_of l) ∙ omega (arith, length-bits 8 (pos b), length-of l)

num-of : (l : List ℕ) → ((i : ℕ) → get_or l i 0 < 256) → num (bits_of l) ≡ bytes_number l
unfolding bits_of
num-of [] h = refl
num-of (b ∷ l) h =
    num-append (bits 8 (pos b)) (bits_of l)
    ∙ rw (length-bits 8 (pos b), num-bits_small 8 b (h 0), num-of l (λ i. h (suc i))) (omega arith)

of-append : (l m : List ℕ) → bits_of (l ++ m) ≡ bits_of l ++ bits_of m
unfolding bits_of
of-append [] m = refl
of-append (b ∷ l) m = ap (λ (p : List Bool). bits 8 (pos b) ++ p) (of-append l m) ∙ sym (append_assoc (bits 8 (pos b)) (bits_of l) (bits_of m))

of-reverse : (l : List ℕ) → bits_of (reverse l) ≡ eights_turned (length l) (bits_of l)
unfolding bits_of
of-reverse [] = refl
of-reverse (b ∷ l) =
    ap bits_of (reverse-append (b ∷ []) l) ∙ of-append (reverse l) (b ∷ [])
    ∙ ap₂ (λ (p q : List Bool). p ++ q) (of-reverse l) (append-nil (bits 8 (pos b)))
    ∙ sym (first-to_end (length l) (bits 8 (pos b)) (bits_of l) (length-bits 8 (pos b)))

small : (i k n j : ℕ) → get_or (bytes_low_first i k n) j 0 < 256
small i zero n j = omega arith
small zero (suc k) n zero = mod-lt n (omega arith)
small (suc i) (suc k) n zero = mod-lt (n / 256 ^ suc i) (omega arith)
small i (suc k) n (suc j) = small (suc i) k n j

bytes-small : (n : ℕ) (x : ℤ) (j : ℕ) → get_or (bytes n x) j 0 < 256
unfolding bytes
bytes-small n x j = small 0 n (residue (8 * n) x) j

of-bytes : (n : ℕ) (x : ℤ) → bits_of (bytes n x) ≡ bits (8 * n) x
of-bytes n x =
    same_num (bits_of (bytes n x)) (bits (8 * n) x)
    (length-of (bytes n x) ∙ ap (λ (k : ℕ). 8 * k) (length-bytes n x) ∙ sym (length-bits (8 * n) x))
    (num-of (bytes n x) (bytes-small n x) ∙ bytes_number-bytes n x ∙ sym (num-bits_residue (8 * n) x))

reverse-small : (l : List ℕ) → ((i : ℕ) → get_or l i 0 < 256) → (i : ℕ) → get_or (reverse l) i 0 < 256
reverse-small l h i = by-order (cases_lt i (length l))
  where
    by-order : (i < length l) ⊎ (length l ≤ i) → get_or (reverse l) i 0 < 256
    by-order (inl less) = rw (get_or-reverse l i 0 less) (h (length l - 1 - i))
    by-order (inr more) = rw (get_or_past (reverse l) i 0 (omega (arith, length-reverse l))) (omega arith)

-- ---- the number

module _ (s : Bool) (B n : ℕ) (x : ℤ) (e : B ≡ 8 * n) where
  length-swapped : length (eights_turned n (bits B x)) ≡ B
  length-swapped = length-turned n (bits B x) (length-bits B x ∙ e) ∙ sym e

  bits-swapped : bits B (swapped s B n x) ≡ eights_turned n (bits B x)
  unfolding swapped
  bits-swapped = bits-val s B (eights_turned n (bits B x)) length-swapped

  swapped-val : swapped s B n x ≡ val s (eights_turned n (bits B x))
  unfolding swapped
  swapped-val = refl

  pub swapped-is : wrap s B (pos (bytes_number (reverse (bytes n x)))) ≡ swapped s B n x
  swapped-is =
      let turned : eights_turned n (bits B x) ≡ bits_of (reverse (bytes n x)) =
      ap (λ (k : ℕ). eights_turned n (bits k x)) e ∙ ap (eights_turned n) (sym (of-bytes n x))
      ∙ ap (λ (k : ℕ). eights_turned k (bits_of (bytes n x))) (sym (length-bytes n x)) ∙ sym (of-reverse (bytes n x)) in
      let number = num-of (reverse (bytes n x)) (reverse-small (bytes n x) (bytes-small n x)) in
      sym (swapped-val ∙ val-num s B (eights_turned n (bits B x)) length-swapped ∙ ap (λ (l : List Bool). wrap s B (pos (num l))) turned
      ∙ ap (λ (m : ℕ). wrap s B (pos m)) number)

  pub popcount-of_swapped : count_by (λ b. b) (bits B (swapped s B n x)) ≡ count_by (λ b. b) (bits B x)
  popcount-of_swapped = ap (count_by (λ b. b)) bits-swapped ∙ turned-ones n (bits B x) (length-bits B x ∙ e)

  pub swapped-not : swapped s B n (bitwise_not s B x) ≡ bitwise_not s B (swapped s B n x)
  unfolding swapped
  swapped-not =
      by-bits s _ _ _ _ refl (not-is s B _)
      (ap (eights_turned n) (bits-not s B x) ∙ turned-not n (bits B x) (length-bits B x ∙ e) ∙ sym (ap (map not) bits-swapped))

  pub swapped-reversed : swapped s B n (reversed s B x) ≡ reversed s B (swapped s B n x)
  unfolding swapped
  swapped-reversed =
      by-bits s _ _ _ _ refl (reversed-is s B _)
      (ap (eights_turned n) (bits-reversed s B x) ∙ sym (turned-reverse n (bits B x) (length-bits B x ∙ e)) ∙ sym (ap reverse bits-swapped))

  pub swapped-twice : 1 ≤ B → InRange s B x → swapped s B n (swapped s B n x) ≡ x
  unfolding swapped
  swapped-twice h f =
      by-bits s _ _ _ _ refl (of-bits s B x h f) (ap (eights_turned n) bits-swapped ∙ turned-twice n (bits B x) (length-bits B x ∙ e))

module _ (s : Bool) (B n : ℕ) (x y : ℤ) (e : B ≡ 8 * n) where
  swapped-pointwise : (f : Bool → Bool → Bool)
      → eights_turned n (pointwise f (bits B x) (bits B y)) ≡ pointwise f (bits B (swapped s B n x)) (bits B (swapped s B n y))
  swapped-pointwise f =
      turned-pointwise f n (bits B x) (bits B y) (length-bits B x ∙ e) (length-bits B y ∙ e)
      ∙ sym (ap₂ (pointwise f) (bits-swapped s B n x e) (bits-swapped s B n y e))

  pub swapped-and : swapped s B n (bitwise_and s B x y) ≡ bitwise_and s B (swapped s B n x) (swapped s B n y)
  unfolding swapped
  swapped-and = by-bits s _ _ _ _ refl (and-is s B _ _) (ap (eights_turned n) (bits-and s B x y) ∙ swapped-pointwise (λ a b. a && b))

  pub swapped-equal : 1 ≤ B → InRange s B x → InRange s B y → int_eq (swapped s B n x) (swapped s B n y) ≡ int_eq x y
  swapped-equal h f g =
      let back : int_eq (swapped s B n x) (swapped s B n y) ≡ true → x ≡ y =
      λ t. sym (swapped-twice s B n x e h f) ∙ ap (swapped s B n) ((Decides-int_eq _ _).0 t) ∙ swapped-twice s B n y e h g in
      same_from_decides _ _ (back, λ t. (Decides-int_eq _ _).1 (ap (swapped s B n) t)) (Decides-int_eq x y)

  pub swapped-or : swapped s B n (bitwise_or s B x y) ≡ bitwise_or s B (swapped s B n x) (swapped s B n y)
  unfolding swapped
  swapped-or = by-bits s _ _ _ _ refl (or-is s B _ _) (ap (eights_turned n) (bits-or s B x y) ∙ swapped-pointwise (λ a b. a || b))

  pub swapped-xor : swapped s B n (bitwise_xor s B x y) ≡ bitwise_xor s B (swapped s B n x) (swapped s B n y)
  unfolding swapped
  swapped-xor = by-bits s _ _ _ _ refl (xor-is s B _ _) (ap (eights_turned n) (bits-xor s B x y) ∙ swapped-pointwise (λ a b. not (beq a b)))

pub ruleset swapped_words = (Decides-int_eq, swapped-is, popcount-of_swapped, swapped-not, swapped-reversed, swapped-twice, swapped-equal, swapped-and, swapped-or, swapped-xor)
