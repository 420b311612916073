-- For `lower` in src/raised.rt: a right shift that copies the sign, stated for numbers. The lemmas are in
-- storages/RaisedNumber.antt.
use Rattle.arbitrary_base.proofs.storages.RaisedNumber.{lower-value}
use Rattle.arbitrary_base.proofs.raised.lower.Goals as goal

pub returns : goal.returns
returns g c = lower-value g.T.Storage.SIGNED c.args.bits g.T.Storage.WIDTH _ (g.T.Storage.number c.args.x) _ c.requires.width c.requires.storage c.requires.x_in_range c.WIDTH.ensures c.shr_by.ensures
