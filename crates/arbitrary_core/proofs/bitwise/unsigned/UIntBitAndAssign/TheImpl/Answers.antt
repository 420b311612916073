use Rattle.arbitrary_core.proofs.bitwise.unsigned.UIntBitAndAssign.TheImpl.Goals as goal

pub bitand_assign-tells : goal.bitand_assign-tells
bitand_assign-tells g c = record { after = (c.ensures.bits, c.ensures.operands_from_bits.0, c.ensures.operands_from_bits.1) }
