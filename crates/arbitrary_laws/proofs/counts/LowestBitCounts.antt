-- The number of ones in a number's lowest set bit and in the zeros below it, and in the number with its lowest
-- zero filled; and that bit by `^`. Callers name the set `lowest_bit_counts`.
use Rattle.std.specs.Bool.{beq}
use Rattle.std.specs.List.{count_by, prefix_len}
use Rattle.std.specs.Prelude.{Bool, List, [], false, length, map, not, pos, replicate, true, ℕ, ℤ, ◌+◌, ◌-ℤ◌, ◌<◌, ◌^◌, ◌↔◌, ◌∷◌, ◌≡◌, ◌≢◌, ◌≤◌, ◌⊎◌}
use Rattle.std.proofs.Common.{ap, ap₂, arith, inl, inr, refl, sym, ◌∙◌}
use Rattle.std.proofs.lemmas.Bool.{cases_lt}
use Rattle.std.proofs.lemmas.Bool.Decides.{Decides-int_eq}
use Rattle.arbitrary_base.specs.BitList.{bits, bits_and, bits_or, bits_xor, num}
use Rattle.arbitrary_base.specs.Operation.{bitwise_and, bitwise_not, bitwise_or, bitwise_xor, shifted_left, wrapped_difference, wrapped_sum}
use Rattle.arbitrary_base.specs.Range.{InRange}
use Rattle.arbitrary_base.proofs.bit_lists.Count.{popcount-cons}
use Rattle.arbitrary_base.proofs.bit_lists.Pointwise.{cons, not-not}
use Rattle.arbitrary_base.proofs.bit_lists.TwosComplement.{bits-congruent, bits-wrap}
use Rattle.arbitrary_base.proofs.bit_lists.UnsignedNumber.{length-bits}
use Rattle.arbitrary_base.proofs.modular.Congruence.{Congruent-refl, Congruent-sub}
use Rattle.arbitrary_base.proofs.operations.BitsAndSums.{natural}
use Rattle.arbitrary_base.proofs.operations.Bitwise.{bitwise_and-commutes}
use Rattle.arbitrary_base.proofs.operations.Definition.{bits-and, bits-minus_one, bits-not, bits-or, bits-xor, difference-is}
use Rattle.arbitrary_calls.proofs.counts.EndCounts.{no_ones-of_zero, zero-of_no_ones}
use Rattle.arbitrary_laws.proofs.bits.Identities.{bitwise_and-zero}
use Rattle.arbitrary_laws.proofs.bits.Parts.{and_not-is_xor}
use Rattle.arbitrary_laws.proofs.counts.CountBounds.{front-of_one_bit, popcount-of_one_bit}
use Rattle.arbitrary_laws.proofs.numbers.QuotientAndCube.{negated-is_difference}
use Rattle.arbitrary_laws.proofs.places.LowestBit.{and-of_negated, before, bits-before, front-below, none-or-some}
use Rattle.arbitrary_laws.proofs.places.SingleBit.{left-of_one}
use Rattle.arbitrary_laws.proofs.sums.Complements.{negated-not, not-of_before}

-- ---- the list of the number before, also of 0

before-none : (l : List Bool) → count_by (λ b. b) l ≡ 0 → before l ≡ replicate (length l) true
before-none [] e = refl
before-none (true ∷ l) e = absurd (omega (arith, popcount-cons true l))
before-none (false ∷ l) e = ap (λ (m : List Bool). true ∷ m) (before-none l (omega (arith, popcount-cons false l)))

num-none : (l : List Bool) → count_by (λ b. b) l ≡ 0 → num l ≡ 0
num-none [] e = refl
num-none (true ∷ l) e = absurd (omega (arith, popcount-cons true l))
num-none (false ∷ l) e = omega (arith, num-none l (omega (arith, popcount-cons false l)))

bits-before_any : (s : Bool) (B : ℕ) (x : ℤ) → bits B (wrapped_difference s B x (pos 1)) ≡ before (bits B x)
bits-before_any s B x = by-count (cases_lt (count_by (λ b. b) (bits B x)) 1)
  where
    by-count : (count_by (λ b. b) (bits B x) < 1) ⊎ (1 ≤ count_by (λ b. b) (bits B x)) → bits B (wrapped_difference s B x (pos 1)) ≡ before (bits B x)
    by-count (inr some) = bits-before s B x some
    by-count (inl none) =
        let e : count_by (λ b. b) (bits B x) ≡ 0 = omega arith in
        ap (bits B) (difference-is s B x (pos 1)) ∙ bits-wrap s B (x -ℤ pos 1)
        ∙ bits-congruent B (x -ℤ pos 1) (pos (num (bits B x)) -ℤ pos 1) (Congruent-sub B x (pos (num (bits B x))) (pos 1) (pos 1) (natural B x) (Congruent-refl B (pos 1)))
        ∙ ap (λ (n : ℕ). bits B (pos n -ℤ pos 1)) (num-none (bits B x) e) ∙ bits-minus_one B
        ∙ sym (before-none (bits B x) e ∙ ap (λ (n : ℕ). replicate n true) (length-bits B x))

bits-negated : (s : Bool) (B : ℕ) (x : ℤ) → 1 ≤ B → bits B (wrapped_difference s B (pos 0) x) ≡ map not (before (bits B x))
bits-negated s B x h = ap (bits B) (sym (not-of_before s B x h)) ∙ bits-not s B (wrapped_difference s B x (pos 1)) ∙ ap (map not) (bits-before_any s B x)

bits-after : (s : Bool) (B : ℕ) (x : ℤ) → 1 ≤ B → bits B (wrapped_sum s B x (pos 1)) ≡ map not (before (map not (bits B x)))
bits-after s B x h =
    ap (bits B) (sym (negated-not s B x h)) ∙ bits-negated s B (bitwise_not s B x) h ∙ ap (λ (l : List Bool). map not (before l)) (bits-not s B x)

-- ---- the zeros below the lowest bit

none-shared : (l : List Bool) → count_by (λ b. b) (bits_and (map not l) l) ≡ 0
none-shared [] = refl
none-shared (true ∷ l) = omega (arith, popcount-cons false (bits_and (map not l) l), none-shared l)
none-shared (false ∷ l) = omega (arith, popcount-cons false (bits_and (map not l) l), none-shared l)

below : (l : List Bool) → count_by (λ b. b) (bits_and (map not l) (before l)) ≡ prefix_len (beq false) l
below [] = refl
below (true ∷ l) = omega (arith, popcount-cons false (bits_and (map not l) l), none-shared l)
below (false ∷ l) = omega (arith, popcount-cons true (bits_and (map not l) (before l)), below l)

pub popcount-of_below : (s : Bool) (B : ℕ) (x : ℤ)
    → count_by (λ b. b) (bits B (bitwise_and s B (bitwise_not s B x) (wrapped_difference s B x (pos 1)))) ≡ prefix_len (beq false) (bits B x)
popcount-of_below s B x =
    ap (count_by (λ b. b)) (bits-and s B _ _ ∙ ap₂ bits_and (bits-not s B x) (bits-before_any s B x)) ∙ below (bits B x)

none-differ : (l : List Bool) → count_by (λ b. b) (bits_xor l l) ≡ 0
none-differ [] = refl
none-differ (true ∷ l) = omega (arith, popcount-cons false (bits_xor l l), none-differ l)
none-differ (false ∷ l) = omega (arith, popcount-cons false (bits_xor l l), none-differ l)

to-lowest : (l : List Bool) → 1 ≤ count_by (λ b. b) l → count_by (λ b. b) (bits_xor l (before l)) ≡ prefix_len (beq false) l + 1
to-lowest [] h = absurd (omega arith)
to-lowest (true ∷ l) h = omega (arith, popcount-cons true (bits_xor l l), none-differ l)
to-lowest (false ∷ l) h = omega (arith, popcount-cons true (bits_xor l (before l)), to-lowest l (omega (arith, popcount-cons false l)))

pub popcount-to_lowest : (s : Bool) (B : ℕ) (x : ℤ) → 1 ≤ B → InRange s B x → x ≢ pos 0
    → count_by (λ b. b) (bits B (bitwise_xor s B x (wrapped_difference s B x (pos 1)))) ≡ prefix_len (beq false) (bits B x) + 1
popcount-to_lowest s B x h f d =
    ap (count_by (λ b. b)) (bits-xor s B _ _ ∙ ap (bits_xor (bits B x)) (bits-before_any s B x)) ∙ to-lowest (bits B x) (none-or-some s B x h f d)

-- ---- the number before

fewer : (l : List Bool) → 1 ≤ count_by (λ b. b) l → count_by (λ b. b) (before l) + 1 ≡ count_by (λ b. b) l + prefix_len (beq false) l
fewer [] h = absurd (omega arith)
fewer (true ∷ l) h = omega (arith, popcount-cons true l, popcount-cons false l)
fewer (false ∷ l) h = omega (arith, popcount-cons true (before l), popcount-cons false l, fewer l (omega (arith, popcount-cons false l)))

-- of a power of two, where the difference doesn't wrap
pub popcount-before_one_bit : (B k : ℕ) → k < B → (shifted_left false B (pos 1) k ≡ pos (2 ^ k)) × (count_by (λ b. b) (bits B (pos (2 ^ k) -ℤ pos 1)) ≡ k)
popcount-before_one_bit B k h =
    let x = shifted_left false B (pos 1) k in
    let e : x ≡ pos (2 ^ k) = left-of_one B k h in
    let one = popcount-of_one_bit false B k h in
    let n : bits B (x -ℤ pos 1) ≡ before (bits B x) = sym (bits-wrap false B (x -ℤ pos 1)) ∙ ap (bits B) (sym (difference-is false B x (pos 1))) ∙ bits-before_any false B x in
    let c = ap (count_by (λ b. b)) (ap (λ (z : ℤ). bits B (z -ℤ pos 1)) (sym e) ∙ n) in
    (e, omega (arith, fewer (bits B x) (omega arith), front-of_one_bit false B k h))

-- ---- the number after

or-same : (l : List Bool) → bits_or l l ≡ l
or-same [] = refl
or-same (a ∷ l) = cons (grind arith) (or-same l)

filled : (l : List Bool) → count_by (λ b. b) l < length l → count_by (λ b. b) (bits_or l (map not (before (map not l)))) ≡ count_by (λ b. b) l + 1
filled [] h = absurd (omega arith)
filled (true ∷ l) h =
    omega (arith, popcount-cons true (bits_or l (map not (before (map not l)))), popcount-cons true l, filled l (omega (arith, popcount-cons true l)))
filled (false ∷ l) h =
    let e = ap (count_by (λ b. b)) (ap (bits_or l) (not-not l) ∙ or-same l) in
    omega (arith, popcount-cons true (bits_or l (map not (map not l))), popcount-cons false l)

pub popcount-filled : (s : Bool) (B : ℕ) (x : ℤ) → 1 ≤ B → count_by (λ b. b) (bits B x) < B
    → count_by (λ b. b) (bits B (bitwise_or s B x (wrapped_sum s B x (pos 1)))) ≡ count_by (λ b. b) (bits B x) + 1
popcount-filled s B x h g =
    ap (count_by (λ b. b)) (bits-or s B _ _ ∙ ap (bits_or (bits B x)) (bits-after s B x h)) ∙ filled (bits B x) (omega (arith, length-bits B x))

-- ---- the lowest bit alone

pub popcount-of_lowest : (s : Bool) (B : ℕ) (x : ℤ) → 1 ≤ B → InRange s B x → x ≢ pos 0
    → count_by (λ b. b) (bits B (bitwise_and s B x (wrapped_difference s B (pos 0) x))) ≡ 1
popcount-of_lowest s B x h f d =
    let g : prefix_len (beq false) (bits B x) < B = omega (arith, front-below (bits B x) (none-or-some s B x h f d), length-bits B x) in
    ap (λ (z : ℤ). count_by (λ b. b) (bits B z)) (and-of_negated s B x h f d) ∙ popcount-of_one_bit s B (prefix_len (beq false) (bits B x)) g

none-alone : (s : Bool) (B : ℕ) (x : ℤ) → 1 ≤ B → InRange s B x → (bitwise_and s B x (wrapped_difference s B (pos 0) x) ≡ pos 0) → x ≡ pos 0
none-alone s B x h f e = by-count (cases_lt (count_by (λ b. b) (bits B x)) 1)
  where
    by-count : (count_by (λ b. b) (bits B x) < 1) ⊎ (1 ≤ count_by (λ b. b) (bits B x)) → x ≡ pos 0
    by-count (inl none) = zero-of_no_ones s B x h f (omega arith)
    by-count (inr some) =
        let d : x ≢ pos 0 = λ z. let n = no_ones-of_zero B x z in absurd (omega arith) in
        let one = popcount-of_lowest s B x h f d in
        let none = no_ones-of_zero B _ e in
        absurd (omega arith)

pub alone-zero : (s : Bool) (B : ℕ) (x : ℤ) → 1 ≤ B → InRange s B x → (bitwise_and s B x (wrapped_difference s B (pos 0) x) ≡ pos 0) ↔ (x ≡ pos 0)
alone-zero s B x h f = (
  (λ e. none-alone s B x h f e),
  (λ e. bitwise_and-commutes s B x _ ∙ ap (bitwise_and s B (wrapped_difference s B (pos 0) x)) e ∙ bitwise_and-zero s B _ h),
)

pub alone-is_xor : (s : Bool) (B : ℕ) (x : ℤ) → 1 ≤ B
    → bitwise_xor s B x (bitwise_and s B x (wrapped_difference s B x (pos 1))) ≡ bitwise_and s B x (wrapped_difference s B (pos 0) x)
alone-is_xor s B x h = sym (and_not-is_xor s B x (wrapped_difference s B x (pos 1))) ∙ ap (bitwise_and s B x) (not-of_before s B x h)

pub ruleset lowest_bit_counts = (Decides-int_eq, negated-is_difference, popcount-of_below, popcount-to_lowest, popcount-before_one_bit, popcount-filled, popcount-of_lowest, alone-zero, alone-is_xor)
