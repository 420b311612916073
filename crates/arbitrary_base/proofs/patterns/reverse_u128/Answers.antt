use Rattle.std.proofs.Common.{refl}
use Rattle.arbitrary_base.proofs.bit_lists.CodeOnPatterns.{reverse_halves}
use Rattle.arbitrary_base.proofs.patterns.reverse_u128.Goals as goal

pub returns : goal.returns
returns c = reverse_halves 64 _ _ _ _ c.ranges.x.fits refl c.reverse_u64.type_inv c.reverse_u64-2.type_inv c.reverse_u64.ensures c.reverse_u64-2.ensures
