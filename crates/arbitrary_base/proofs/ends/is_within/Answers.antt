use Rattle.arbitrary_base.proofs.storages.CheckedSum.{below_test, above_test}
use Rattle.arbitrary_base.proofs.ends.is_within.Goals as goal

pub returns-then-not-is_below : goal.returns-then-not-is_below
returns-then-not-is_below g c =
    above_test g.T.Storage.SIGNED c.args.bits _ _ _ _ _ c.lowest.ensures.value c.highest.ensures.value c.is_below.ensures c.if-not-is_below.true c.is_below-then-not-is_below.ensures

pub returns-else-not-is_below : goal.returns-else-not-is_below
returns-else-not-is_below g c = below_test g.T.Storage.SIGNED c.args.bits _ _ _ c.lowest.ensures.value c.is_below.ensures c.if-not-is_below.false
