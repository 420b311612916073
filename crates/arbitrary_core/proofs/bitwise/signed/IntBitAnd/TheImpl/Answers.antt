use Rattle.arbitrary_core.proofs.bitwise.signed.IntBitAnd.TheImpl.Goals as goal

pub bitand-tells : goal.bitand-tells
bitand-tells g c = (c.ensures.bits, c.ensures.operands_from_bits.0, c.ensures.operands_from_bits.1)
