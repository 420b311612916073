use Rattle.arbitrary_base.proofs.storages.CheckedSum.{range_test}
use Rattle.arbitrary_base.proofs.truncation.is_in_range.Goals as goal

pub returns : goal.returns
returns g c = range_test g.T.Storage.SIGNED c.args.bits _ _ _ c.requires.width c.truncated.ensures.value c.equal.ensures
