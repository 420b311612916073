-- `&`, `|` and `^` in sums and differences that wrap. Carry.antt has carries and borrows, and BitSums.antt in
-- bits/ has exact sums.
use Rattle.std.specs.Prelude.{Bool, ℕ, ℤ, ◌≡◌, ◌≤◌}
use Rattle.std.proofs.Common.{ap, arith, ◌∙◌}
use Rattle.std.proofs.lemmas.Int.{ints}
use Rattle.arbitrary_base.specs.BitList.{bits, bits_and}
use Rattle.arbitrary_base.specs.Operation.{bitwise_and, bitwise_not, bitwise_or, bitwise_xor, shifted_left, wrapped_difference, wrapped_sum}
use Rattle.arbitrary_base.proofs.bit_lists.UnsignedNumber.{same_length}
use Rattle.arbitrary_base.proofs.operations.BitsAndSums.{and-in_range, natural, num-and_not, num-xor_and, of-list, or-in_range}
use Rattle.arbitrary_base.proofs.operations.Definition.{bits-and, bits-not, bits-or, bits-xor}
use Rattle.arbitrary_base.proofs.operations.Shift.{shifted_left-is_product}
use Rattle.arbitrary_base.proofs.operations.WrappedRing.{by-congruence, difference-congruent, difference-in_range, sum-congruent, sum-in_range}
use Rattle.arbitrary_laws.proofs.sums.Ring.{wrapped_product-two}

-- ---- sums and differences

pub sum-of_xor_and : (s : Bool) (B : ℕ) (x y : ℤ) → 1 ≤ B → wrapped_sum s B (bitwise_xor s B x y) (bitwise_and s B x y) ≡ bitwise_or s B x y
sum-of_xor_and s B x y h =
    let e = num-xor_and (bits B x) (bits B y) (same_length B x y) in
    by-congruence s B _ _ _ _ h (sum-in_range s B _ _ h) (or-in_range s B x y h)
    (sum-congruent s B _ _ _ _ (of-list B _ _ (bits-xor s B x y)) (of-list B _ _ (bits-and s B x y)))
    (of-list B _ _ (bits-or s B x y)) (omega (arith, ints))

pub difference-of_and : (s : Bool) (B : ℕ) (x y : ℤ) → 1 ≤ B → wrapped_difference s B x (bitwise_and s B x y) ≡ bitwise_and s B x (bitwise_not s B y)
difference-of_and s B x y h =
    let e = num-and_not (bits B x) (bits B y) (same_length B x y) in
    by-congruence s B _ _ _ _ h (difference-in_range s B _ _ h) (and-in_range s B x _ h)
    (difference-congruent s B x _ _ _ (natural B x) (of-list B _ _ (bits-and s B x y)))
    (of-list B _ _ (bits-and s B x _ ∙ ap (bits_and (bits B x)) (bits-not s B y))) (omega (arith, ints))

pub sum-twice : (s : Bool) (B : ℕ) (x : ℤ) → 1 ≤ B → shifted_left s B x 1 ≡ wrapped_sum s B x x
sum-twice s B x h = shifted_left-is_product s B x 1 h h ∙ wrapped_product-two s B x h
