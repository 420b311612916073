use Rattle.std.specs.Int.{w64}
use Rattle.arbitrary_base.proofs.storages.Primitive.{signed-checked_mul}
use Rattle.arbitrary_base.proofs.storage.bits64.I64Storage.checked_mul.Goals as goal

pub returns : goal.returns
returns c = signed-checked_mul w64 _ _ _ c.ranges.self c.ranges.other c.checked_mul.ensures
