use Rattle.arbitrary_base.proofs.storages.Clamp.{clamped-low, clamped-high, clamped-between}
use Rattle.arbitrary_base.proofs.saturating.clamped.Goals as goal

pub returns-then-is_below : goal.returns-then-is_below
returns-then-is_below g c = clamped-low g.T.Storage.SIGNED c.args.bits _ _ _ c.lowest-low.ensures.value c.is_below.ensures c.if-is_below.true

pub returns-then-is_below-2 : goal.returns-then-is_below-2
returns-then-is_below-2 g c = clamped-high g.T.Storage.SIGNED c.args.bits _ _ _ c.requires.width c.highest-high.ensures.value c.is_below-else-is_below.ensures c.if-is_below-2.true

pub returns-else-is_below-2 : goal.returns-else-is_below-2
returns-else-is_below-2 g c =
    clamped-between g.T.Storage.SIGNED c.args.bits _ _ _ _ _ c.lowest-low.ensures.value c.highest-high.ensures.value c.is_below.ensures c.if-is_below.false c.is_below-else-is_below.ensures c.if-is_below-2.false
