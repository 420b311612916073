-- The lowest bit of a number that is one. `x & (x - 1)` clears it, so a power of two becomes 0, and `x & -x`
-- clears the others. Callers name the set `lowest_bits`.
use Rattle.std.specs.Bool.{beq}
use Rattle.std.specs.List.{count_by, prefix_len}
use Rattle.std.specs.Prelude.{Bool, List, [], false, length, map, not, pos, replicate, suc, take, true, unsigned_abs, zero, ℕ, ℤ, ◌++◌, ◌+◌, ◌-ℤ◌, ◌-◌, ◌<◌, ◌↔◌, ◌∷◌, ◌≡◌, ◌≢◌, ◌≤◌}
use Rattle.std.proofs.Common.{ap, arith, refl, subst, sym, ◌∙◌}
use Rattle.std.proofs.lemmas.Bool.Decides.{Decides-int_eq}
use Rattle.std.proofs.lemmas.Int.{ints}
use Rattle.arbitrary_base.specs.BitList.{bits, bits_and, num, val}
use Rattle.arbitrary_base.specs.Operation.{bitwise_and, shifted_left, wrapped_difference}
use Rattle.arbitrary_base.specs.Range.{InRange}
use Rattle.arbitrary_base.proofs.bit_lists.Count.{popcount-cons}
use Rattle.arbitrary_base.proofs.bit_lists.TwosComplement.{bits-congruent, bits-wrap}
use Rattle.arbitrary_base.proofs.bit_lists.UnsignedNumber.{bits-num_of, length-bits}
use Rattle.arbitrary_base.proofs.modular.Congruence.{Congruent-refl, Congruent-sub}
use Rattle.arbitrary_base.proofs.modular.Residue.{wrap-of_in_range}
use Rattle.arbitrary_base.proofs.operations.BitsAndSums.{and-in_range, natural}
use Rattle.arbitrary_base.proofs.operations.Bitwise.{bitwise_and-commutes}
use Rattle.arbitrary_base.proofs.operations.Definition.{and-is, bits-and, bits-left, bits-not, by-bits, difference-is, left-is}
use Rattle.arbitrary_calls.proofs.counts.EndCounts.{no_ones-of_zero, zero-of_no_ones}
use Rattle.arbitrary_laws.proofs.bits.Identities.{bitwise_and-zero}
use Rattle.arbitrary_laws.proofs.counts.CountBounds.{bits-one_bit, front-of_one_bit, popcount-of_one_bit}
use Rattle.arbitrary_laws.proofs.masks.NumberUnderMask.{and-below}
use Rattle.arbitrary_laws.proofs.numbers.QuotientAndCube.{negated-is_difference}
use Rattle.arbitrary_laws.proofs.sums.Complements.{not-of_before}

-- the list of the number before
abbrev pub before : List Bool → List Bool
before [] = []
before (true ∷ l) = false ∷ l
before (false ∷ l) = true ∷ before l

length-before : (l : List Bool) → length (before l) ≡ length l
length-before [] = refl
length-before (true ∷ l) = refl
length-before (false ∷ l) = omega (arith, length-before l)

num-before : (l : List Bool) → 1 ≤ count_by (λ b. b) l → num (before l) + 1 ≡ num l
num-before [] h = absurd (omega arith)
num-before (true ∷ l) h = omega arith
num-before (false ∷ l) h = let e = popcount-cons false l in let i = num-before l (omega arith) in omega arith

module _ (s : Bool) (B : ℕ) (x : ℤ) (some : 1 ≤ count_by (λ b. b) (bits B x)) where
  pub bits-before : bits B (wrapped_difference s B x (pos 1)) ≡ before (bits B x)
  bits-before =
      let n = num-before (bits B x) some in
      let e : pos (num (bits B x)) -ℤ pos 1 ≡ pos (num (before (bits B x))) = omega (arith, ints) in
      ap (bits B) (difference-is s B x (pos 1)) ∙ bits-wrap s B (x -ℤ pos 1)
      ∙ bits-congruent B (x -ℤ pos 1) (pos (num (bits B x)) -ℤ pos 1) (Congruent-sub B x (pos (num (bits B x))) (pos 1) (pos 1) (natural B x) (Congruent-refl B (pos 1)))
      ∙ ap (bits B) e ∙ bits-num_of B (before (bits B x)) (length-before (bits B x) ∙ length-bits B x)

popcount-before : (l : List Bool) → 1 ≤ count_by (λ b. b) l → count_by (λ b. b) (bits_and l (before l)) + 1 ≡ count_by (λ b. b) l
popcount-before [] h = absurd (omega arith)
popcount-before (true ∷ l) h = omega (arith, popcount-cons true l, popcount-cons false (bits_and l l), same l)
  where
    same : (l : List Bool) → count_by (λ b. b) (bits_and l l) ≡ count_by (λ b. b) l
    same [] = refl
    same (true ∷ l) = omega (arith, popcount-cons true l, popcount-cons true (bits_and l l), same l)
    same (false ∷ l) = omega (arith, popcount-cons false l, popcount-cons false (bits_and l l), same l)
popcount-before (false ∷ l) h =
    let e = popcount-cons false l in
    omega (arith, popcount-cons false (bits_and l (before l)), popcount-before l (omega arith))

pub none-or-some : (s : Bool) (B : ℕ) (x : ℤ) → 1 ≤ B → InRange s B x → x ≢ pos 0 → 1 ≤ count_by (λ b. b) (bits B x)
none-or-some s B x h f d = by-count (count_by (λ b. b) (bits B x)) refl
  where
    by-count : (n : ℕ) → n ≡ count_by (λ b. b) (bits B x) → 1 ≤ count_by (λ b. b) (bits B x)
    by-count zero e = absurd (d (zero-of_no_ones s B x h f (sym e)))
    by-count (suc n) e = omega arith

pub popcount-of_lowest_cleared : (s : Bool) (B : ℕ) (x : ℤ) → 1 ≤ B → InRange s B x → x ≢ pos 0
    → count_by (λ b. b) (bits B (bitwise_and s B x (wrapped_difference s B x (pos 1)))) + 1 ≡ count_by (λ b. b) (bits B x)
popcount-of_lowest_cleared s B x h f d =
    let some = none-or-some s B x h f d in
    ap (λ (n : ℕ). n + 1) (ap (count_by (λ b. b)) (bits-and s B x (wrapped_difference s B x (pos 1)) ∙ ap (bits_and (bits B x)) (bits-before s B x some)))
    ∙ popcount-before (bits B x) some

-- ---- a power of two: no bit is left once the lowest is cleared

pub none-left : (s : Bool) (B : ℕ) (x : ℤ) → 1 ≤ B → InRange s B x → x ≢ pos 0
    → (bitwise_and s B x (wrapped_difference s B x (pos 1)) ≡ pos 0) ↔ (count_by (λ b. b) (bits B x) ≡ 1)
none-left s B x h f d =
    let c = bitwise_and s B x (wrapped_difference s B x (pos 1)) in
    let n = popcount-of_lowest_cleared s B x h f d in (
      (λ e. let z : count_by (λ b. b) (bits B c) ≡ 0 = no_ones-of_zero B c e in omega arith),
      (λ e. zero-of_no_ones s B c h (and-in_range s B x (wrapped_difference s B x (pos 1)) h) (omega arith)),
    )

-- the number before it, where the difference doesn't wrap
pub none-left_by_before : (s : Bool) (B : ℕ) (x y : ℤ) → 1 ≤ B → InRange s B x → InRange s B y → x ≢ pos 0 → y ≡ x -ℤ pos 1
    → (bitwise_and s B x y ≡ pos 0) ↔ (count_by (λ b. b) (bits B x) ≡ 1)
none-left_by_before s B x y h f g d e =
    let r : InRange s B (x -ℤ pos 1) = subst (InRange s B) e g in
    let w : y ≡ wrapped_difference s B x (pos 1) = e ∙ sym (difference-is s B x (pos 1) ∙ wrap-of_in_range s B (x -ℤ pos 1) h r) in
    let n = none-left s B x h f d in (
      (λ z. n.0 (sym (ap (bitwise_and s B x) w) ∙ z)),
      (λ z. ap (bitwise_and s B x) w ∙ n.1 z),
    )

-- ---- kept alone

take-zeros : (n m : ℕ) → n ≤ m → take n (replicate m false) ≡ replicate n false
take-zeros zero m h = refl
take-zeros (suc n) zero h = absurd (omega arith)
take-zeros (suc n) (suc m) h = ap (λ (l : List Bool). false ∷ l) (take-zeros n m (omega arith))

and-not_self : (l : List Bool) → bits_and l (map not l) ≡ replicate (length l) false
and-not_self [] = refl
and-not_self (true ∷ l) = ap (λ (m : List Bool). false ∷ m) (and-not_self l)
and-not_self (false ∷ l) = ap (λ (m : List Bool). false ∷ m) (and-not_self l)

kept : (l : List Bool) → 1 ≤ count_by (λ b. b) l
    → bits_and l (map not (before l)) ≡ replicate (prefix_len (beq false) l) false ++ (true ∷ replicate (length l - prefix_len (beq false) l - 1) false)
kept [] h = absurd (omega arith)
kept (true ∷ l) h = ap (λ (m : List Bool). true ∷ m) (and-not_self l ∙ ap (λ (n : ℕ). replicate n false) (omega arith))
kept (false ∷ l) h =
    let e = popcount-cons false l in
    let k = prefix_len (beq false) l in
    let more : suc k ≡ prefix_len (beq false) (false ∷ l) = omega arith in
    let rest : length l - k - 1 ≡ length (false ∷ l) - prefix_len (beq false) (false ∷ l) - 1 = omega arith in
    ap (λ (m : List Bool). false ∷ m) (kept l (omega arith))
    ∙ ap (λ (n : ℕ). replicate (suc k) false ++ (true ∷ replicate n false)) rest
    ∙ ap (λ (n : ℕ). replicate n false ++ (true ∷ replicate (length (false ∷ l) - prefix_len (beq false) (false ∷ l) - 1) false)) more

pub front-below : (l : List Bool) → 1 ≤ count_by (λ b. b) l → prefix_len (beq false) l < length l
front-below [] h = absurd (omega arith)
front-below (true ∷ l) h = omega arith
front-below (false ∷ l) h = let e = popcount-cons false l in omega (arith, front-below l (omega arith))

pub and-of_negated : (s : Bool) (B : ℕ) (x : ℤ) → 1 ≤ B → InRange s B x → x ≢ pos 0
    → bitwise_and s B x (wrapped_difference s B (pos 0) x) ≡ shifted_left s B (pos 1) (prefix_len (beq false) (bits B x))
and-of_negated s B x h f d =
    let some = none-or-some s B x h f d in
    let k = prefix_len (beq false) (bits B x) in
    let n = length-bits B x in
    let g : k < B = omega (arith, front-below (bits B x) some) in
    let y : bits B (wrapped_difference s B (pos 0) x) ≡ map not (before (bits B x)) =
    ap (bits B) (sym (not-of_before s B x h)) ∙ bits-not s B (wrapped_difference s B x (pos 1)) ∙ ap (map not) (bits-before s B x some) in
    let one : bits B (shifted_left s B (pos 1) k) ≡ replicate k false ++ (true ∷ replicate (B - k - 1) false) =
    bits-one_bit s B k g ∙ ap (λ (l : List Bool). replicate k false ++ (true ∷ l)) (take-zeros (B - k - 1) (B - 1) (omega arith)) in
    let both : bits_and (bits B x) (bits B (wrapped_difference s B (pos 0) x)) ≡ bits B (shifted_left s B (pos 1) k) =
    ap (bits_and (bits B x)) y ∙ kept (bits B x) some ∙ ap (λ (m : ℕ). replicate k false ++ (true ∷ replicate (m - k - 1) false)) n ∙ sym one in
    by-bits s _ _ _ _ (and-is s B x _) (left-again k g) both
  where
    left-again : (k : ℕ) → k < B → shifted_left s B (pos 1) k ≡ val s (bits B (shifted_left s B (pos 1) k))
    left-again k g = left-is s B (pos 1) k ∙ ap (val s) (sym (bits-left s B (pos 1) k (omega arith)))

-- the search shows this premise from `x != 0` and from `0 < x`
pub lowest-is_shifted : (s : Bool) (B : ℕ) (x : ℤ) → 1 ≤ B → InRange s B x → 1 ≤ unsigned_abs x
    → bitwise_and s B x (wrapped_difference s B (pos 0) x) ≡ shifted_left s B (pos 1) (prefix_len (beq false) (bits B x))
lowest-is_shifted s B x h f d = and-of_negated s B x h f (λ e. omega (arith, ints, d, e))

-- how many zeros are below it, also where there is none
pub front-of_lowest : (s : Bool) (B : ℕ) (x : ℤ) → 1 ≤ B → InRange s B x
    → prefix_len (beq false) (bits B (bitwise_and s B x (wrapped_difference s B (pos 0) x))) ≡ prefix_len (beq false) (bits B x)
front-of_lowest s B x h f = by-count (count_by (λ b. b) (bits B x)) refl
  where
    by-count : (n : ℕ) → n ≡ count_by (λ b. b) (bits B x)
        → prefix_len (beq false) (bits B (bitwise_and s B x (wrapped_difference s B (pos 0) x))) ≡ prefix_len (beq false) (bits B x)
    by-count zero e =
        let z = zero-of_no_ones s B x h f (sym e) in
        ap (λ (c : ℤ). prefix_len (beq false) (bits B c)) (bitwise_and-commutes s B x _ ∙ ap (bitwise_and s B _) z ∙ bitwise_and-zero s B _ h ∙ sym z)
    by-count (suc n) e =
        let d : x ≢ pos 0 = λ z. let g = no_ones-of_zero B x z in absurd (omega arith) in
        let l = length-bits B x in
        let k : prefix_len (beq false) (bits B x) < B = omega (arith, front-below (bits B x) (omega arith)) in
        ap (λ (c : ℤ). prefix_len (beq false) (bits B c)) (and-of_negated s B x h f d) ∙ front-of_one_bit s B _ k

-- a mask that is an exact difference is that of the one which wraps, as the laws above have it
pub and-of_difference : (s : Bool) (B : ℕ) (x y z : ℤ) → bitwise_and s B x (y -ℤ z) ≡ bitwise_and s B x (wrapped_difference s B y z)
and-of_difference s B x y z =
    and-is s B x _ ∙ ap (λ (l : List Bool). val s (bits_and (bits B x) l)) (sym (ap (bits B) (difference-is s B y z) ∙ bits-wrap s B (y -ℤ z))) ∙ sym (and-is s B x _)

pub ruleset lowest_bits = (Decides-int_eq, popcount-of_lowest_cleared, front-of_lowest, lowest-is_shifted, ints, negated-is_difference, popcount-of_one_bit, front-of_one_bit, and-below, no_ones-of_zero, zero-of_no_ones, and-of_difference)

-- a test of a power of two: `x & (x - 1) == 0`
pub ruleset powers_of_two = (Decides-int_eq, none-left_by_before, popcount-of_one_bit)
