use Rattle.arbitrary_base.proofs.storages.SpareBit.{wrap-stays}
use Rattle.arbitrary_base.proofs.wrapping.add.Goals as goal

pub returns-clause-value : goal.returns-clause-value
returns-clause-value g c = wrap-stays g.T.Storage.SIGNED c.args.bits g.T.Storage.WIDTH _ _ _ c.requires.width c.requires.storage c.truncated.ensures.value c.wrapping_add.ensures
