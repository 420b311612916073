use Rattle.std.proofs.Common.{◌∙◌}
use Rattle.arbitrary_base.proofs.storages.Clamp.{wrap-reach}
use Rattle.arbitrary_base.proofs.ends.lowest.Goals as goal

pub returns-clause-value : goal.returns-clause-value
returns-clause-value g c =
    c.from_low_bits.ensures.value
    ∙ wrap-reach g.T.Storage.SIGNED c.args.bits c.reach_below_zero.result c.requires.width (rw c.SIGNED.ensures at c.reach_below_zero.ensures)
