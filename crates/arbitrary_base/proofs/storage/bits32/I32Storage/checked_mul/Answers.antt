use Rattle.std.specs.Int.{w32}
use Rattle.arbitrary_base.proofs.storages.Primitive.{signed-checked_mul}
use Rattle.arbitrary_base.proofs.storage.bits32.I32Storage.checked_mul.Goals as goal

pub returns : goal.returns
returns c = signed-checked_mul w32 _ _ _ c.ranges.self c.ranges.other c.checked_mul.ensures
