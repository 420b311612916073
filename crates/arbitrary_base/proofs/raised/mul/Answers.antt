use Rattle.std.proofs.Common.{arith, refl}
use Rattle.std.specs.Prelude.{◌-◌, ◌*ℤ◌}
use Rattle.arbitrary_base.proofs.modular.Truncation.{InRange-of_wrap}
use Rattle.arbitrary_base.proofs.storages.RaisedNumber.{lowered, raised-overflow}
use Rattle.arbitrary_base.proofs.integers.ExactProduct.{raised-even, raised-in, raised-product}
use Rattle.arbitrary_base.proofs.raised.mul.Goals as goal

pub lower-requires-clause-x_in_range : goal.lower-requires-clause-x_in_range
lower-requires-clause-x_in_range g c = InRange-of_wrap g.T.Storage.SIGNED g.T.Storage.WIDTH _ _ (g.met.T.Storage.width_law.0) c.wrapping_mul-product.ensures

pub is_exact-requires-clause-x_in_range : goal.is_exact-requires-clause-x_in_range
is_exact-requires-clause-x_in_range g c =
    raised-in g.T.Storage.SIGNED c.args.bits g.T.Storage.WIDTH (g.T.Storage.number c.args.x) _ c.requires.width (omega (arith, c.requires.storage)) c.requires.x_in_range c.raise-raised.ensures

pub is_exact-requires-clause-factor : goal.is_exact-requires-clause-factor
is_exact-requires-clause-factor g c =
    raised-even (g.T.Storage.WIDTH - c.args.bits) (g.T.Storage.number c.args.x) _ (omega (arith, c.requires.storage)) c.raise-raised.ensures

pub returns-clause-value : goal.returns-clause-value
returns-clause-value g c =
    lowered g.T.Storage.SIGNED c.args.bits g.T.Storage.WIDTH (g.T.Storage.number c.args.x *ℤ g.T.Storage.number c.args.y) _ _ _ c.requires.width (omega (arith, c.requires.storage))
    (raised-product (g.T.Storage.WIDTH - c.args.bits) (g.T.Storage.number c.args.x) (g.T.Storage.number c.args.y) _ c.raise-raised.ensures) c.wrapping_mul-product.ensures c.lower.ensures

pub returns-clause-result_in_range : goal.returns-clause-result_in_range
returns-clause-result_in_range g c = InRange-of_wrap g.T.Storage.SIGNED c.args.bits _ _ c.requires.width (returns-clause-value g c)

pub returns-clause-overflow : goal.returns-clause-overflow
returns-clause-overflow g c =
    raised-overflow g.T.Storage.SIGNED c.args.bits g.T.Storage.WIDTH g.T.Storage.WIDTH (g.T.Storage.number c.args.x *ℤ g.T.Storage.number c.args.y) _ _ _ c.requires.width (omega (arith, c.requires.storage))
    (raised-product (g.T.Storage.WIDTH - c.args.bits) (g.T.Storage.number c.args.x) (g.T.Storage.number c.args.y) _ c.raise-raised.ensures) refl refl c.is_exact.ensures
