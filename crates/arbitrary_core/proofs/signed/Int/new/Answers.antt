use Rattle.arbitrary_base.proofs.modular.Residue.{wrap-in_range}
use Rattle.arbitrary_base.proofs.modular.RoundTrip.{number-stays, pattern-stays}
use Rattle.arbitrary_core.proofs.signed.Int.new.Goals as goal

pub invariant_of-result : goal.invariant_of-result
invariant_of-result g c = (
  c.requires.width,
  wrap-in_range g.T.Storage.SIGNED g.row.BITS _ (c.requires.width.0),
  pattern-stays g.T.Storage.SIGNED g.U.Storage.SIGNED g.row.BITS _ g.met.U.UnsignedStorage.unsigned_law (c.requires.width.0) c.cast.ensures.result_in_range,
)

pub returns : goal.returns
returns g c = number-stays _ _ _ _ _ c.requires.width.0 c.requires.value_in_range c.cast.ensures.value
