use Rattle.arbitrary_core.proofs.bitwise.unsigned.UIntBitXor.TheImpl.Goals as goal

pub bitxor-tells : goal.bitxor-tells
bitxor-tells g c = (c.ensures.bits, c.ensures.operands_from_bits.0, c.ensures.operands_from_bits.1)
