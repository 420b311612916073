use Rattle.std.proofs.Common.{◌∙◌, to_z-of_z}
use Rattle.std.specs.Prelude.{◌*ℤ◌}
use Rattle.std.specs.Int.{w64}
use Rattle.arbitrary_base.proofs.storages.SixteenBits.{small-product}
use Rattle.arbitrary_base.proofs.small.product.Goals as goal

pub overflow_mul-result : goal.overflow_mul-result
overflow_mul-result g c =
    small-product g.T.Storage.SIGNED g.T.Storage.WIDTH _ _ _ _ (g.met.T.Storage.width_law.0) c.requires.small c.number.ensures.x_in_range c.number-2.ensures.x_in_range
    (to_z-of_z {w = w64} {z = c.number.result} (record { sfits = c.number.type_inv }) ∙ c.number.ensures.value)
    (to_z-of_z {w = w64} {z = c.number-2.result} (record { sfits = c.number-2.type_inv }) ∙ c.number-2.ensures.value)

pub returns : goal.returns
returns g c =
    to_z-of_z {w = w64} (overflow_mul-result g c)
    ∙ (λ i. (to_z-of_z {w = w64} {z = c.number.result} (record { sfits = c.number.type_inv }) ∙ c.number.ensures.value) i *ℤ (to_z-of_z {w = w64} {z = c.number-2.result} (record { sfits = c.number-2.type_inv }) ∙ c.number-2.ensures.value) i)
