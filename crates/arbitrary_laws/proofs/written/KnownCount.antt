-- How many bits of a literal are one.
use Rattle.std.specs.List.{count_by}
use Rattle.std.specs.Prelude.{pos, suc, zero, ℕ, ◌%◌, ◌+◌, ◌/◌, ◌<◌, ◌==◌, ◌^◌, ◌≡◌, ◌≤◌}
use Rattle.std.proofs.Common.{ap, ap₂, arith, pow-suc, refl, ◌∙◌}
use Rattle.arbitrary_base.specs.BitList.{bits}
use Rattle.arbitrary_base.proofs.bit_lists.Count.{popcount-cons}
use Rattle.arbitrary_base.proofs.bit_lists.UnsignedNumber.{digit}
use Rattle.arbitrary_base.proofs.operations.PopulationAndRuns.{popcount-of_zero}

-- of the lowest f bits; an `abbrev`, so that it computes at a number that is written out
abbrev pub ones_of : ℕ → ℕ → ℕ
ones_of zero m = zero
ones_of (suc f) zero = zero
ones_of (suc f) (suc m) = suc m % 2 + ones_of f (suc m / 2)

none : (f : ℕ) → 0 ≡ ones_of f 0
none zero = refl
none (suc f) = refl

-- the digit that a test for 1 gives back
pub digit-of : (r : ℕ) → r < 2 → digit (r == 1) ≡ r
digit-of zero h = refl
digit-of (suc zero) h = refl
digit-of (suc (suc r)) h = absurd (omega arith)

pub counted : (f B n : ℕ) → B ≤ f → n < 2 ^ B → count_by (λ b. b) (bits B (pos n)) ≡ ones_of f n
unfolding bits
counted f zero n h g = let z : 0 ≡ n = omega arith in none f ∙ ap (ones_of f) z
counted zero (suc B) n h g = absurd (omega arith)
counted (suc f) (suc B) zero h g = popcount-of_zero (suc B)
counted (suc f) (suc B) (suc m) h g =
    let p = pow-suc 2 B in
    let s : suc m % 2 < 2 = omega arith in
    popcount-cons (suc m % 2 == 1) (bits B (pos (suc m / 2)))
    ∙ ap₂ (λ (a b : ℕ). a + b) (digit-of (suc m % 2) s) (counted f B (suc m / 2) (omega arith) (omega arith))

pub popcount-of_numeral : (B m : ℕ) → B ≤ 128 → suc m < 2 ^ B → count_by (λ b. b) (bits B (pos (suc m))) ≡ ones_of 128 (suc m)
popcount-of_numeral B m h g = counted 128 B (suc m) h g
