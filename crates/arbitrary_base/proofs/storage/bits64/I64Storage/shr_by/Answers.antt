use Rattle.std.specs.Int.{w64}
use Rattle.arbitrary_base.proofs.bit_lists.SignBit.{signed-shr}
use Rattle.arbitrary_base.proofs.storage.bits64.I64Storage.shr_by.Goals as goal

pub returns : goal.returns
returns c = signed-shr w64 c.args.self c.args.n c.ranges.self c.requires
