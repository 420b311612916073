-- The complement in sums and differences that wrap. ComplementParts.antt in bits/ has the complement of `^` and
-- `|`.
use Rattle.std.specs.Prelude.{Bool, pos, ℕ, ℤ, ◌≡◌, ◌≤◌}
use Rattle.std.proofs.Common.{ap, arith, ◌∙◌}
use Rattle.std.proofs.lemmas.Int.{ints}
use Rattle.arbitrary_base.specs.BitList.{bits, bits_and}
use Rattle.arbitrary_base.specs.Operation.{bitwise_and, bitwise_not, wrapped_difference, wrapped_sum}
use Rattle.arbitrary_base.specs.Range.{InRange}
use Rattle.arbitrary_base.proofs.bit_lists.UnsignedNumber.{same_length}
use Rattle.arbitrary_base.proofs.modular.Congruence.{Congruent-refl}
use Rattle.arbitrary_base.proofs.operations.BitsAndSums.{natural, num-and_not, of-list}
use Rattle.arbitrary_base.proofs.operations.Complement.{not-congruent}
use Rattle.arbitrary_base.proofs.operations.Definition.{bits-and, bits-not, not-in_range}
use Rattle.arbitrary_base.proofs.operations.WrappedRing.{by-congruence, difference-congruent, difference-in_range, sum-congruent, sum-in_range}

pub not-of_before : (s : Bool) (B : ℕ) (x : ℤ) → 1 ≤ B → bitwise_not s B (wrapped_difference s B x (pos 1)) ≡ wrapped_difference s B (pos 0) x
not-of_before s B x h =
    by-congruence s B _ _ _ _ h (not-in_range s B _ h) (difference-in_range s B _ _ h)
    (not-congruent s B _ _ (difference-congruent s B _ _ _ _ (Congruent-refl B x) (Congruent-refl B (pos 1))))
    (difference-congruent s B _ _ _ _ (Congruent-refl B (pos 0)) (Congruent-refl B x)) (omega (arith, ints))

pub not-is_negated : (s : Bool) (B : ℕ) (x : ℤ) → 1 ≤ B → bitwise_not s B x ≡ wrapped_difference s B (pos 0) (wrapped_sum s B x (pos 1))
not-is_negated s B x h =
    by-congruence s B _ _ _ _ h (not-in_range s B x h) (difference-in_range s B _ _ h) (not-congruent s B x x (Congruent-refl B x))
    (difference-congruent s B _ _ _ _ (Congruent-refl B (pos 0)) (sum-congruent s B _ _ _ _ (Congruent-refl B x) (Congruent-refl B (pos 1))))
    (omega (arith, ints))

pub negated-not : (s : Bool) (B : ℕ) (x : ℤ) → 1 ≤ B → wrapped_difference s B (pos 0) (bitwise_not s B x) ≡ wrapped_sum s B x (pos 1)
negated-not s B x h =
    by-congruence s B _ _ _ _ h (difference-in_range s B _ _ h) (sum-in_range s B _ _ h)
    (difference-congruent s B _ _ _ _ (Congruent-refl B (pos 0)) (not-congruent s B x x (Congruent-refl B x)))
    (sum-congruent s B _ _ _ _ (Congruent-refl B x) (Congruent-refl B (pos 1))) (omega (arith, ints))

-- ---- of two numbers

pub difference-of_nots : (s : Bool) (B : ℕ) (x y : ℤ) → 1 ≤ B → wrapped_difference s B (bitwise_not s B x) (bitwise_not s B y) ≡ wrapped_difference s B y x
difference-of_nots s B x y h =
    by-congruence s B _ _ _ _ h (difference-in_range s B _ _ h) (difference-in_range s B _ _ h)
    (difference-congruent s B _ _ _ _ (not-congruent s B x x (Congruent-refl B x)) (not-congruent s B y y (Congruent-refl B y)))
    (difference-congruent s B _ _ _ _ (Congruent-refl B y) (Congruent-refl B x)) (omega (arith, ints))

pub difference-by_not : (s : Bool) (B : ℕ) (x y : ℤ) → 1 ≤ B → wrapped_difference s B x y ≡ wrapped_sum s B (wrapped_sum s B x (bitwise_not s B y)) (pos 1)
difference-by_not s B x y h =
    by-congruence s B _ _ _ _ h (difference-in_range s B _ _ h) (sum-in_range s B _ _ h)
    (difference-congruent s B _ _ _ _ (Congruent-refl B x) (Congruent-refl B y))
    (sum-congruent s B _ _ _ _ (sum-congruent s B _ _ _ _ (Congruent-refl B x) (not-congruent s B y y (Congruent-refl B y))) (Congruent-refl B (pos 1)))
    (omega (arith, ints))

pub sum-by_not : (s : Bool) (B : ℕ) (x y : ℤ) → 1 ≤ B
    → wrapped_sum s B x y ≡ wrapped_difference s B (wrapped_difference s B x (bitwise_not s B y)) (pos 1)
sum-by_not s B x y h =
    by-congruence s B _ _ _ _ h (sum-in_range s B _ _ h) (difference-in_range s B _ _ h)
    (sum-congruent s B _ _ _ _ (Congruent-refl B x) (Congruent-refl B y))
    (difference-congruent s B _ _ _ _ (difference-congruent s B _ _ _ _ (Congruent-refl B x) (not-congruent s B y y (Congruent-refl B y))) (Congruent-refl B (pos 1)))
    (omega (arith, ints))

-- ---- parts under a mask

pub sum-of_parts : (s : Bool) (B : ℕ) (x y : ℤ) → 1 ≤ B → InRange s B x → wrapped_sum s B (bitwise_and s B x y) (bitwise_and s B x (bitwise_not s B y)) ≡ x
sum-of_parts s B x y h f =
    let e = num-and_not (bits B x) (bits B y) (same_length B x y) in
    by-congruence s B _ _ _ _ h (sum-in_range s B _ _ h) f
    (sum-congruent s B _ _ _ _ (of-list B _ _ (bits-and s B x y))
    (of-list B _ _ (bits-and s B x _ ∙ ap (bits_and (bits B x)) (bits-not s B y))))
    (natural B x) (omega (arith, ints))
