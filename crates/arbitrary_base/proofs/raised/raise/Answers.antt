-- For `raise` in src/raised.rt: in range, the left shift loses no bit, so it is a product with a power of two. The
-- lemmas are in storages/RaisedNumber.antt.
use Rattle.arbitrary_base.proofs.storages.RaisedNumber.{raise-value}
use Rattle.arbitrary_base.proofs.raised.raise.Goals as goal

pub returns : goal.returns
returns g c = raise-value g.T.Storage.SIGNED c.args.bits g.T.Storage.WIDTH _ (g.T.Storage.number c.args.x) _ c.requires.width c.requires.storage c.requires.x_in_range c.WIDTH.ensures c.shl_by.ensures
