use Rattle.std.proofs.Common.{refl}
use Rattle.arbitrary_base.proofs.integers.Squaring.{nearest-end}
use Rattle.arbitrary_base.proofs.storages.Clamp.{clamp-in_range}
use Rattle.arbitrary_base.proofs.storages.SpareBit.{equal-determines, none-out_of_range}
use Rattle.arbitrary_base.proofs.power.clamped.Goals as goal

pub returns-then-is_in_range : goal.returns-then-is_in_range
returns-then-is_in_range g c = clamp-in_range g.T.Storage.SIGNED c.args.bits _ _ (c.is_in_range.ensures.0 c.if-is_in_range.true) refl

pub returns-else-is_in_range : goal.returns-else-is_in_range
returns-else-is_in_range g c =
    nearest-end g.T.Storage.SIGNED c.args.bits _ _ _ c.requires.width
    (none-out_of_range g.T.Storage.SIGNED c.args.bits _ _ _ (equal-determines _ _ _ _ refl) c.is_in_range.ensures c.if-is_in_range.false) c.is_below_zero.ensures c.end.ensures
