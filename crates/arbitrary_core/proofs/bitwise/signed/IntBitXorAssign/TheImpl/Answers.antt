use Rattle.arbitrary_core.proofs.bitwise.signed.IntBitXorAssign.TheImpl.Goals as goal

pub bitxor_assign-tells : goal.bitxor_assign-tells
bitxor_assign-tells g c = record { after = (c.ensures.bits, c.ensures.operands_from_bits.0, c.ensures.operands_from_bits.1) }
