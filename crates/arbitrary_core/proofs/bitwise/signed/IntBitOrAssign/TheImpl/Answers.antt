use Rattle.arbitrary_core.proofs.bitwise.signed.IntBitOrAssign.TheImpl.Goals as goal

pub bitor_assign-tells : goal.bitor_assign-tells
bitor_assign-tells g c = record { after = (c.ensures.bits, c.ensures.operands_from_bits.0, c.ensures.operands_from_bits.1) }
