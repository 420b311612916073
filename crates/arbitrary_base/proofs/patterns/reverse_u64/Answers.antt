use Rattle.std.proofs.Common.{refl}
use Rattle.arbitrary_base.proofs.bit_lists.CodeOnPatterns.{reverse_halves}
use Rattle.arbitrary_base.proofs.patterns.reverse_u64.Goals as goal

pub returns : goal.returns
returns c = reverse_halves 32 _ _ _ _ c.ranges.x.fits refl c.reverse_bits.type_inv c.reverse_bits-2.type_inv c.reverse_bits.ensures c.reverse_bits-2.ensures
