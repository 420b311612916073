use Rattle.std.proofs.Common.{arith}
use Rattle.arbitrary_base.proofs.bit_lists.ResultOfPattern.{not-value}
use Rattle.arbitrary_base.proofs.bitwise.not.Goals as goal

pub not-requires-clause-high : goal.not-requires-clause-high
not-requires-clause-high g c = omega (arith, c.requires.storage, g.met.T.Storage.width_law.1)

pub returns-clause-value : goal.returns-clause-value
returns-clause-value g c = not-value g.T.Storage.SIGNED c.args.bits _ _ (g.T.Storage.number c.args.x) _ c.low_bits.ensures.value c.not.ensures c.from_low_bits.ensures.value
