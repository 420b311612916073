use Rattle.std.proofs.Common.{arith}
use Rattle.arbitrary_base.proofs.storages.Primitive.{unsigned-sub}
use Rattle.arbitrary_base.proofs.storage.bits16.U16Storage.wrapping_sub.Goals as goal

pub returns : goal.returns
returns c = let f = c.ranges.other.fits in unsigned-sub 16 c.args.self c.args.other (omega arith) (omega arith)
