use Rattle.arbitrary_core.proofs.bitwise.signed.IntBitOr.TheImpl.Goals as goal

pub bitor-tells : goal.bitor-tells
bitor-tells g c = (c.ensures.bits, c.ensures.operands_from_bits.0, c.ensures.operands_from_bits.1)
