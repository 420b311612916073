use Rattle.std.specs.Int.{w32}
use Rattle.arbitrary_base.proofs.bit_lists.SignBit.{signed-shl}
use Rattle.arbitrary_base.proofs.storage.bits32.I32Storage.shl_by.Goals as goal

pub returns : goal.returns
returns c = signed-shl w32 c.args.self c.args.n c.ranges.self c.requires
