use Rattle.arbitrary_core.proofs.StoredBits.{in_range-by_bits}
use Rattle.arbitrary_core.proofs.bitwise.signed.IntBitOrAssign.bitor_assign.Goals as goal

pub returns-clause-self_in_range : goal.returns-clause-self_in_range
returns-clause-self_in_range g c = in_range-by_bits _ _ _ c.bitor.ensures.operands_from_bits.0
