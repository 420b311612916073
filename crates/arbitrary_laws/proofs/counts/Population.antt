-- The number of ones in `&`, `|`, `^` and `!` of two numbers, and in a sum of numbers that share no bit. Callers
-- name the set `population`.
use Rattle.std.specs.Bool.{beq}
use Rattle.std.specs.List.{count_by, prefix_len, suffix_len}
use Rattle.std.specs.Prelude.{Bool, List, [], false, length, map, not, pos, true, ℕ, ℤ, ◌&&◌, ◌+◌, ◌↔◌, ◌∷◌, ◌≡◌, ◌≤◌}
use Rattle.std.proofs.Common.{ap, arith, refl, ◌∙◌}
use Rattle.std.proofs.lemmas.Bool.Decides.{Decides-int_eq}
use Rattle.arbitrary_base.specs.BitList.{bits, bits_and}
use Rattle.arbitrary_base.specs.Operation.{bitwise_and, bitwise_not, bitwise_or, bitwise_xor, rotated_right}
use Rattle.arbitrary_base.specs.Range.{InRange}
use Rattle.arbitrary_base.proofs.bit_lists.Count.{popcount-cons}
use Rattle.arbitrary_base.proofs.bit_lists.Rotation.{reverse-alike}
use Rattle.arbitrary_base.proofs.bit_lists.UnsignedNumber.{digit, same_length}
use Rattle.arbitrary_base.proofs.operations.BitsAndSums.{sum-of_disjoint, xor-in_range}
use Rattle.arbitrary_base.proofs.operations.Definition.{bits-and, bits-not, bits-not_zero}
use Rattle.arbitrary_base.proofs.operations.PopulationAndRuns.{front-alike, popcount-of_and, popcount-of_and_or, popcount-rotr}
use Rattle.arbitrary_calls.proofs.counts.EndCounts.{no_ones-of_zero, zero-of_no_ones}
use Rattle.arbitrary_laws.proofs.bits.Identities.{bitwise_xor-equal, bitwise_xor-same}
use Rattle.arbitrary_laws.proofs.counts.CountBounds.{popcount-of_one_bit, popcount-of_xor}
use Rattle.arbitrary_laws.proofs.rotations.RotatedLists.{bits-rotr}

-- ---- how many are one

pub popcount-of_right : (s : Bool) (B : ℕ) (x : ℤ) (k : ℕ) → count_by (λ b. b) (bits B (rotated_right s B x k)) ≡ count_by (λ b. b) (bits B x)
popcount-of_right s B x k = ap (count_by (λ b. b)) (bits-rotr s B x k) ∙ popcount-rotr (bits B x) k

pub popcount-of_or : (s : Bool) (B : ℕ) (x y : ℤ)
    → (count_by (λ b. b) (bits B x) ≤ count_by (λ b. b) (bits B (bitwise_or s B x y))) × (count_by (λ b. b) (bits B y) ≤ count_by (λ b. b) (bits B (bitwise_or s B x y)))
popcount-of_or s B x y =
    let e = popcount-of_and_or s B x y in
    let f = popcount-of_and s B x y in
    (omega arith, omega arith)

-- ---- how many equal bits are at an end

pub front-of_not_zero : (s : Bool) (B : ℕ) → prefix_len (beq true) (bits B (bitwise_not s B (pos 0))) ≡ B
front-of_not_zero s B = ap (prefix_len (beq true)) (bits-not_zero s B) ∙ front-alike true B

pub tail-of_not_zero : (s : Bool) (B : ℕ) → suffix_len (beq true) (bits B (bitwise_not s B (pos 0))) ≡ B
tail-of_not_zero s B = ap (suffix_len (beq true)) (bits-not_zero s B) ∙ ap (prefix_len (beq true)) (reverse-alike B true) ∙ front-alike true B

-- ---- `|`

pub popcount-within_or : (s : Bool) (B : ℕ) (x y : ℤ)
    → count_by (λ b. b) (bits B (bitwise_or s B x y)) + count_by (λ b. b) (bits B (bitwise_and s B x y)) ≡ count_by (λ b. b) (bits B x) + count_by (λ b. b) (bits B y)
popcount-within_or s B x y = omega (arith, popcount-of_and_or s B x y)

-- ---- a number parted by another

parted : (l m : List Bool) → length l ≡ length m → count_by (λ b. b) (bits_and l (map not m)) + count_by (λ b. b) (bits_and l m) ≡ count_by (λ b. b) l
parted [] [] e = refl
parted [] (b ∷ m) e = absurd (omega arith)
parted (a ∷ l) [] e = absurd (omega arith)
parted (a ∷ l) (b ∷ m) e =
    omega (arith, item a b, popcount-cons (a && not b) (bits_and l (map not m)), popcount-cons (a && b) (bits_and l m), popcount-cons a l, parted l m (omega arith))
  where
    item : (a b : Bool) → digit (a && not b) + digit (a && b) ≡ digit a
    item true true = refl
    item true false = refl
    item false true = refl
    item false false = refl

pub popcount-of_and_not : (s : Bool) (B : ℕ) (x y : ℤ)
    → count_by (λ b. b) (bits B (bitwise_and s B x (bitwise_not s B y))) + count_by (λ b. b) (bits B (bitwise_and s B x y)) ≡ count_by (λ b. b) (bits B x)
popcount-of_and_not s B x y =
    let a = ap (count_by (λ b. b)) (bits-and s B x (bitwise_not s B y) ∙ ap (bits_and (bits B x)) (bits-not s B y)) in
    let b = ap (count_by (λ b. b)) (bits-and s B x y) in
    omega (arith, parted (bits B x) (bits B y) (same_length B x y))

-- ---- none

pub popcount-of_xor_none : (s : Bool) (B : ℕ) (x y : ℤ) → 1 ≤ B → InRange s B x → InRange s B y
    → (count_by (λ b. b) (bits B (bitwise_xor s B x y)) ≡ 0) ↔ (x ≡ y)
popcount-of_xor_none s B x y h f g = (
  (λ e. bitwise_xor-equal s B x y h f g (zero-of_no_ones s B (bitwise_xor s B x y) h (xor-in_range s B x y h) e)),
  (λ e. no_ones-of_zero B (bitwise_xor s B x y) (ap (λ (z : ℤ). bitwise_xor s B z y) e ∙ bitwise_xor-same s B y h)),
)

pub ruleset population = (Decides-int_eq, popcount-of_and, popcount-within_or, popcount-of_xor, popcount-of_and_not, popcount-of_xor_none, no_ones-of_zero, sum-of_disjoint)

-- whether the number of ones is odd, of `^` and where one bit is turned over
pub ruleset parities = (popcount-of_xor, popcount-of_one_bit)
