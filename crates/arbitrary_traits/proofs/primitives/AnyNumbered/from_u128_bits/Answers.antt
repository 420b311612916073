use Rattle.arbitrary_base.proofs.operations.PowerAndQuotient.{to_u128_bits-undone}
use Rattle.arbitrary_traits.proofs.Conversion.{wrap-at}
use Rattle.arbitrary_traits.proofs.primitives.AnyNumbered.from_u128_bits.Goals as goal

pub returns-clause-undo : goal.returns-clause-undo
returns-clause-undo g c = λ y f d.
    to_u128_bits-undone g.T.Storage.SIGNED g.T.Storage.WIDTH _ _ y (g.met.T.Storage.width_law.0) (g.met.T.Storage.width_law.1) f d (wrap-at _ _ c.WIDTH.ensures c.from_low_bits.ensures.value)
