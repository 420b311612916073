use Rattle.arbitrary_base.proofs.storages.SignTest.{across-zero}
use Rattle.arbitrary_base.proofs.ends.is_across_zero.Goals as goal

pub returns : goal.returns
returns g c = across-zero _ _ _ _ _ _ c.is_below_zero-sign.ensures c.is_below_zero.ensures c.is_below_zero-2.ensures
