use Rattle.std.specs.Int.{w16}
use Rattle.arbitrary_base.proofs.storages.Primitive.{signed-overflowing_mul}
use Rattle.arbitrary_base.proofs.storage.bits16.I16Storage.overflowing_mul.Goals as goal

pub returns : goal.returns
returns c =
    let e = signed-overflowing_mul w16 _ _ _ _ c.ranges.self c.ranges.other c.overflowing_mul.ensures.value c.overflowing_mul.ensures.overflow in
    record { value = e.0; overflow = e.1 }
