use Rattle.std.specs.Int.{w16}
use Rattle.arbitrary_base.proofs.storages.Primitive.{signed-checked_mul}
use Rattle.arbitrary_base.proofs.storage.bits16.I16Storage.checked_mul.Goals as goal

pub returns : goal.returns
returns c = signed-checked_mul w16 _ _ _ c.ranges.self c.ranges.other c.checked_mul.ensures
