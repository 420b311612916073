use Rattle.std.proofs.Common.{◌∙◌, ◌≡◌, ℤ, ◌*◌, ◌%◌, ◌^◌, ap, to_z-of_z, pos, to_z, of_z}
use Rattle.std.specs.Prelude.{unsigned_abs, int_lt}
use Rattle.std.specs.Int.{w128}
use Rattle.arbitrary_base.proofs.integers.SignAndMagnitude.{mul-by_sizes}
use Rattle.arbitrary_base.proofs.storages.Primitive.{signed-overflowing_mul}
use Rattle.arbitrary_base.proofs.storage.bits128.I128Storage.overflowing_mul.Goals as goal

pub returns-clause-value : goal.returns-clause-value
returns-clause-value c =
    let x : to_z w128 (of_z w128 c.args.self) ≡ c.args.self = to_z-of_z {w = w128} {z = c.args.self} (record { sfits = c.ranges.self.sfits }) in
    let y : to_z w128 (of_z w128 c.args.other) ≡ c.args.other = to_z-of_z {w = w128} {z = c.args.other} (record { sfits = c.ranges.other.sfits }) in
    let a : c.unsigned_abs.result ≡ unsigned_abs c.args.self = c.unsigned_abs.ensures.value ∙ ap unsigned_abs x in
    let b : c.unsigned_abs-2.result ≡ unsigned_abs c.args.other = c.unsigned_abs-2.ensures.value ∙ ap unsigned_abs y in
    to_z-of_z {w = w128} {z = c.with_sign.result} (record { sfits = c.with_sign.type_inv })
    ∙ mul-by_sizes c.args.self c.args.other c.with_sign.result c.overflowing_mul-size.result.0 _ _
    (c.overflowing_mul-size.ensures.value ∙ (λ i. (a i * b i) % 2 ^ 128)) (ap (λ (z : ℤ). int_lt z (pos 0)) x) (ap (λ (z : ℤ). int_lt z (pos 0)) y)
    c.with_sign.ensures

pub returns-clause-overflow : goal.returns-clause-overflow
returns-clause-overflow c =
    (signed-overflowing_mul w128 _ _ _ _ c.ranges.self c.ranges.other c.overflowing_mul-overflow.ensures.value c.overflowing_mul-overflow.ensures.overflow).1
