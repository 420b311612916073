use Rattle.arbitrary_base.proofs.bit_lists.ResultOfPattern.{and-value}
use Rattle.arbitrary_base.proofs.bitwise.and.Goals as goal

pub returns-clause-value : goal.returns-clause-value
returns-clause-value g c =
    and-value g.T.Storage.SIGNED c.args.bits _ _ _ (g.T.Storage.number c.args.x) (g.T.Storage.number c.args.y) _ c.low_bits.ensures.value c.low_bits-2.ensures.value c.and.ensures c.from_low_bits.ensures.value
