-- The laws of the complement in sums and differences: it is -1 minus the number.
use Rattle.std.specs.Prelude.{Bool, map, negsuc, not, pos, ℕ, ℤ, ◌+◌, ◌-ℤ◌, ◌^◌, ◌≡◌, ◌≤◌}
use Rattle.std.proofs.Common.{ap, arith, ◌∙◌}
use Rattle.std.proofs.lemmas.Int.{ints}
use Rattle.arbitrary_base.specs.BitList.{bits, bits_and, num}
use Rattle.arbitrary_base.specs.Operation.{bitwise_and, bitwise_not, bitwise_or, wrapped_difference, wrapped_sum}
use Rattle.arbitrary_base.specs.Residue.{Congruent}
use Rattle.arbitrary_base.proofs.bit_lists.Pointwise.{and-comm}
use Rattle.arbitrary_base.proofs.bit_lists.UnsignedNumber.{length-bits, num-not, same_length}
use Rattle.arbitrary_base.proofs.modular.Congruence.{Congruent-by_times, Congruent-refl, Congruent-sub, Congruent-sym, Congruent-trans}
use Rattle.arbitrary_base.proofs.operations.BitsAndSums.{and-in_range, natural, num-and_not, num-or_and, of-list}
use Rattle.arbitrary_base.proofs.operations.Definition.{bits-and, bits-not, bits-or, not-in_range}
use Rattle.arbitrary_base.proofs.operations.WrappedRing.{by-congruence, difference-congruent, difference-in_range, sum-congruent, sum-in_range}

pub not-congruent : (s : Bool) (B : ℕ) (x a : ℤ) → Congruent B x a → Congruent B (bitwise_not s B x) (negsuc 0 -ℤ a)
not-congruent s B x a c =
    let e : num (bits B x) + num (map not (bits B x)) + 1 ≡ 2 ^ B = num-not (bits B x) ∙ ap (λ (n : ℕ). 2 ^ n) (length-bits B x) in
    let d : Congruent B (pos (num (map not (bits B x)))) (negsuc 0 -ℤ pos (num (bits B x))) = Congruent-by_times B _ _ (pos 1) (omega (arith, ints)) in
    let f = Congruent-trans B _ x a (Congruent-sym B x _ (natural B x)) c in
    Congruent-trans B _ _ _ (of-list B _ _ (bits-not s B x)) (Congruent-trans B _ _ _ d (Congruent-sub B _ _ _ _ (Congruent-refl B (negsuc 0)) f))

pub not-is_difference : (s : Bool) (B : ℕ) (x : ℤ) → 1 ≤ B → bitwise_not s B x ≡ wrapped_difference s B (wrapped_difference s B (pos 0) x) (pos 1)
not-is_difference s B x h =
    by-congruence s B _ _ _ _ h (not-in_range s B x h) (difference-in_range s B _ _ h) (not-congruent s B x x (Congruent-refl B x))
    (difference-congruent s B _ _ _ _ (difference-congruent s B _ _ _ _ (Congruent-refl B (pos 0)) (Congruent-refl B x)) (Congruent-refl B (pos 1)))
    (omega (arith, ints))

pub negated-is_sum : (s : Bool) (B : ℕ) (x : ℤ) → 1 ≤ B → wrapped_difference s B (pos 0) x ≡ wrapped_sum s B (bitwise_not s B x) (pos 1)
negated-is_sum s B x h =
    by-congruence s B _ _ _ _ h (difference-in_range s B _ _ h) (sum-in_range s B _ _ h)
    (difference-congruent s B _ _ _ _ (Congruent-refl B (pos 0)) (Congruent-refl B x))
    (sum-congruent s B _ _ _ _ (not-congruent s B x x (Congruent-refl B x)) (Congruent-refl B (pos 1))) (omega (arith, ints))

pub sum-with_not : (s : Bool) (B : ℕ) (x : ℤ) → 1 ≤ B → wrapped_sum s B x (bitwise_not s B x) ≡ bitwise_not s B (pos 0)
sum-with_not s B x h =
    by-congruence s B _ _ _ _ h (sum-in_range s B _ _ h) (not-in_range s B _ h)
    (sum-congruent s B _ _ _ _ (Congruent-refl B x) (not-congruent s B x x (Congruent-refl B x)))
    (not-congruent s B (pos 0) (pos 0) (Congruent-refl B (pos 0))) (omega (arith, ints))

-- ---- of two numbers

pub not-of_sum : (s : Bool) (B : ℕ) (x y : ℤ) → 1 ≤ B → bitwise_not s B (wrapped_sum s B x y) ≡ wrapped_difference s B (bitwise_not s B x) y
not-of_sum s B x y h =
    by-congruence s B _ _ _ _ h (not-in_range s B _ h) (difference-in_range s B _ _ h)
    (not-congruent s B _ _ (sum-congruent s B _ _ _ _ (Congruent-refl B x) (Congruent-refl B y)))
    (difference-congruent s B _ _ _ _ (not-congruent s B x x (Congruent-refl B x)) (Congruent-refl B y)) (omega (arith, ints))

pub not-of_difference : (s : Bool) (B : ℕ) (x y : ℤ) → 1 ≤ B → bitwise_not s B (wrapped_difference s B x y) ≡ wrapped_sum s B (bitwise_not s B x) y
not-of_difference s B x y h =
    by-congruence s B _ _ _ _ h (not-in_range s B _ h) (sum-in_range s B _ _ h)
    (not-congruent s B _ _ (difference-congruent s B _ _ _ _ (Congruent-refl B x) (Congruent-refl B y)))
    (sum-congruent s B _ _ _ _ (not-congruent s B x x (Congruent-refl B x)) (Congruent-refl B y)) (omega (arith, ints))

-- ---- parts under a mask

pub difference-of_or : (s : Bool) (B : ℕ) (x y : ℤ) → 1 ≤ B → wrapped_difference s B (bitwise_or s B x y) x ≡ bitwise_and s B y (bitwise_not s B x)
difference-of_or s B x y h =
    let e = num-or_and (bits B x) (bits B y) (same_length B x y) in
    let d = num-and_not (bits B y) (bits B x) (same_length B y x) in
    let c = ap num (and-comm (bits B x) (bits B y)) in
    by-congruence s B _ _ _ _ h (difference-in_range s B _ _ h) (and-in_range s B y _ h)
    (difference-congruent s B _ _ _ _ (of-list B _ _ (bits-or s B x y)) (natural B x))
    (of-list B _ _ (bits-and s B y _ ∙ ap (bits_and (bits B y)) (bits-not s B x))) (omega (arith, ints))
