-- How `!`, `&` and `|` relate to the order, as `FixedWidth` states it for generic code: the complement mirrors the
-- range. For an unsigned type, `&` is at most its operands, and `|` at least.
use Rattle.std.specs.Prelude.{Bool, false, map, negsuc, not, pos, suc, true, zero, ℕ, ℤ, ◌+ℤ◌, ◌+◌, ◌-ℤ◌, ◌^◌, ◌≡◌, ◌≤ℤ◌, ◌≤◌}
use Rattle.std.proofs.Common.{ap, arith, subst, sym, ◌∙◌}
use Rattle.std.proofs.lemmas.Int.{ints}
use Rattle.arbitrary_base.specs.BitList.{bits, bits_and, bits_or, num, val}
use Rattle.arbitrary_base.specs.Operation.{bitwise_and, bitwise_not}
use Rattle.arbitrary_base.specs.Range.{InRange, hi, lo}
use Rattle.arbitrary_base.specs.Residue.{Congruent}
use Rattle.arbitrary_base.proofs.bit_lists.StdBitwise.{num-and_right}
use Rattle.arbitrary_base.proofs.bit_lists.TwosComplement.{val-bits}
use Rattle.arbitrary_base.proofs.bit_lists.UnsignedNumber.{length-bits, num-not}
use Rattle.arbitrary_base.proofs.modular.Congruence.{Congruent-refl}
use Rattle.arbitrary_base.proofs.modular.Residue.{wrap-in_range}
use Rattle.arbitrary_base.proofs.operations.BitsAndSums.{and-in_range, or-keeps, plain}
use Rattle.arbitrary_base.proofs.operations.Bitwise.{bitwise_and-commutes, bitwise_or-commutes}
use Rattle.arbitrary_base.proofs.operations.Complement.{not-is_difference}
use Rattle.arbitrary_base.proofs.operations.Definition.{and-is, bits-and, bits-not, not-in_range, not-is, or-is}
use Rattle.arbitrary_base.proofs.operations.WrappedRing.{by-congruence, difference-congruent}

of_own_bits : (s : Bool) (B : ℕ) (x : ℤ) → 1 ≤ B → val s (bits B x) ≡ x → InRange s B x
of_own_bits s B x h e = subst (InRange s B) (sym (val-bits s B x h) ∙ e) (wrap-in_range s B x h)

mirrored : (s : Bool) (B : ℕ) (x : ℤ) → 1 ≤ B → InRange s B x → x +ℤ bitwise_not s B x ≡ lo s B +ℤ hi s B
mirrored false B x h f =
    let a = plain B x f in
    let b = plain B (bitwise_not false B x) (not-in_range false B x h) in
    let c = ap num (bits-not false B x) in
    let d : num (bits B x) + num (map not (bits B x)) + 1 ≡ 2 ^ B = num-not (bits B x) ∙ ap (λ (n : ℕ). 2 ^ n) (length-bits B x) in
    omega (arith, ints)
mirrored true B x h f =
    let low = f.low in
    let high = f.high in
    let r : InRange true B (negsuc 0 -ℤ x) = record { low = omega (arith, ints); high = omega (arith, ints) } in
    let c = subst (λ (z : ℤ). Congruent B z ((pos 0 -ℤ x) -ℤ pos 1)) (sym (not-is_difference true B x h))
    (difference-congruent true B _ _ _ _ (difference-congruent true B _ _ _ _ (Congruent-refl B (pos 0)) (Congruent-refl B x)) (Congruent-refl B (pos 1))) in
    let e = by-congruence true B (bitwise_not true B x) (negsuc 0 -ℤ x) _ _ h (not-in_range true B x h) r c (Congruent-refl B _) (omega (arith, ints)) in
    omega (arith, ints)

pub not-mirrors : (s : Bool) (B : ℕ) (x r : ℤ) → 1 ≤ B → r ≡ val s (map not (bits B x)) → val s (bits B x) ≡ x → x +ℤ r ≡ lo s B +ℤ hi s B
not-mirrors s B x r h e f = ap (λ (z : ℤ). x +ℤ z) (e ∙ sym (not-is s B x)) ∙ mirrored s B x h (of_own_bits s B x h f)

pub not-of_greatest : (s : Bool) (B : ℕ) (x r : ℤ) → 1 ≤ B → r ≡ val s (map not (bits B x)) → val s (bits B x) ≡ x → x ≡ hi s B → r ≡ lo s B
not-of_greatest s B x r h e f g = let m = not-mirrors s B x r h e f in omega (arith, ints)

pub not-of_least : (s : Bool) (B : ℕ) (x r : ℤ) → 1 ≤ B → r ≡ val s (map not (bits B x)) → val s (bits B x) ≡ x → x ≡ lo s B → r ≡ hi s B
not-of_least s B x r h e f g = let m = not-mirrors s B x r h e f in omega (arith, ints)

below : (B : ℕ) (x y z : ℤ) → 1 ≤ B → InRange false B y → z ≡ bitwise_and false B x y → z ≤ℤ y
below B x y z h f e =
    let a = plain B y f in
    let b = plain B (bitwise_and false B x y) (and-in_range false B x y h) in
    let c = ap num (bits-and false B x y) in
    let d = num-and_right (bits B x) (bits B y) in
    omega (arith, ints)

-- the right operand; the left one by the same with the operands turned round. At no bits each number is that of no bit.
pub and-at_most : (s : Bool) (B : ℕ) (x y r : ℤ) → s ≡ false → r ≡ val s (bits_and (bits B x) (bits B y)) → val s (bits B y) ≡ y → r ≤ℤ y
unfolding bits
and-at_most false zero x y r n e f = omega (arith, ints, e, f)
and-at_most false (suc k) x y r n e f = below (suc k) x y r (omega arith) (of_own_bits false (suc k) y (omega arith) f) (e ∙ sym (and-is false (suc k) x y))
and-at_most true B x y r n e f = absurd (cc)

pub and-at_most_left : (s : Bool) (B : ℕ) (x y r : ℤ) → s ≡ false → r ≡ val s (bits_and (bits B x) (bits B y)) → val s (bits B x) ≡ x → r ≤ℤ x
and-at_most_left s B x y r n e f =
    and-at_most s B y x r n (e ∙ sym (and-is s B x y) ∙ bitwise_and-commutes s B x y ∙ and-is s B y x) f

pub or-at_least : (s : Bool) (B : ℕ) (x y r : ℤ) → s ≡ false → r ≡ val s (bits_or (bits B x) (bits B y)) → val s (bits B x) ≡ x → x ≤ℤ r
unfolding bits
or-at_least s zero x y r n e f = omega (arith, ints, e, f)
or-at_least s (suc k) x y r n e f = or-keeps s (suc k) x y r n (omega arith) (of_own_bits s (suc k) x (omega arith) f) (e ∙ sym (or-is s (suc k) x y))

pub or-at_least_right : (s : Bool) (B : ℕ) (x y r : ℤ) → s ≡ false → r ≡ val s (bits_or (bits B x) (bits B y)) → val s (bits B y) ≡ y → y ≤ℤ r
or-at_least_right s B x y r n e f =
    or-at_least s B y x r n (e ∙ sym (or-is s B x y) ∙ bitwise_or-commutes s B x y ∙ or-is s B y x) f
