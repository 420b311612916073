use Rattle.arbitrary_core.proofs.bitwise.signed.IntNot.TheImpl.Goals as goal

pub not-tells : goal.not-tells
not-tells g c = (c.ensures.bits, c.ensures.self_from_bits)
