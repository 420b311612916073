-- A quotient times its divisor, a third power, and a negated number as a difference.
use Rattle.std.specs.Int.{int_pow}
use Rattle.std.specs.Prelude.{Bool, neg_ℤ, negsuc, pos, ℕ, ℤ, ◌*ℤ◌, ◌*◌, ◌+◌, ◌-ℤ◌, ◌/◌, ◌<◌, ◌≡◌, ◌≤ℤ◌, ◌≤◌}
use Rattle.std.proofs.Common.{ap, arith, div-add-mod', mod-lt, mul-le-mul, refl, sym, ◌∙◌}
use Rattle.std.proofs.Math.IntN.{*ℤ_comm}
use Rattle.std.proofs.lemmas.Int.{ints}
use Rattle.arbitrary_base.specs.Operation.{wrapped_difference}
use Rattle.arbitrary_base.specs.Residue.{wrap}
use Rattle.arbitrary_base.proofs.integers.Powers.{power-one, power-suc}
use Rattle.arbitrary_base.proofs.operations.Definition.{difference-is}

pub power-twice : (x : ℤ) → int_pow x 2 ≡ x *ℤ x
power-twice x = power-suc x 1 ∙ ap (λ (z : ℤ). x *ℤ z) (power-one x)

pub quotient-times : (a b : ℕ) → 0 < b → (a / b ≡ a / b) × (a / b * b ≤ a) × (a < a / b * b + b)
quotient-times a b g =
    let d = div-add-mod' a b in
    let l = mod-lt a g in
    (refl, omega arith, omega arith)

cube : (x : ℤ) → int_pow x 3 ≡ x *ℤ x *ℤ x
cube x = power-suc x 2 ∙ ap (λ (z : ℤ). x *ℤ z) (power-twice x) ∙ *ℤ_comm x (x *ℤ x)

below : (n m : ℕ) → n ≤ m → n * n * n ≤ m * m * m
below n m h = mul-le-mul (mul-le-mul h h) h

between : (m : ℕ) (x : ℤ) → pos 0 ≤ℤ x → x ≤ℤ pos m → (pos 0 ≤ℤ int_pow x 3) × (int_pow x 3 ≤ℤ pos (m * m * m))
between m (negsuc n) f g = absurd (omega (arith, ints))
between m (pos n) f g =
    let e : int_pow (pos n) 3 ≡ pos (n * n * n) = cube (pos n) in
    let b = below n m (omega (arith, ints)) in
    (omega (arith, ints), omega (arith, ints))

-- a third power, and its maximum for a number of 4 and of 8 bits
pub power-thrice : (x : ℤ) → (int_pow x 3 ≡ x *ℤ x *ℤ x) × (pos 0 ≤ℤ x → x ≤ℤ pos 15 → (pos 0 ≤ℤ int_pow x 3) × (int_pow x 3 ≤ℤ pos 3375))
    × (pos 0 ≤ℤ x → x ≤ℤ pos 255 → (pos 0 ≤ℤ int_pow x 3) × (int_pow x 3 ≤ℤ pos 16581375))
power-thrice x = (cube x, λ f g. between 15 x f g, λ f g. between 255 x f g)

pub negated-is_difference : (s : Bool) (B : ℕ) (x : ℤ) → wrap s B (neg_ℤ x) ≡ wrapped_difference s B (pos 0) x
negated-is_difference s B x = let e : neg_ℤ x ≡ pos 0 -ℤ x = omega (arith, ints) in ap (wrap s B) e ∙ sym (difference-is s B (pos 0) x)
