use Rattle.arbitrary_base.proofs.bit_lists.ResultOfPattern.{shl-narrow}
use Rattle.arbitrary_base.proofs.shifts.shl.Goals as goal

pub returns-clause-value : goal.returns-clause-value
returns-clause-value g c =
    shl-narrow g.T.Storage.SIGNED c.args.bits g.T.Storage.WIDTH c.args.amount (g.T.Storage.number c.args.x) (g.T.Storage.number c.shl_by.result) (g.T.Storage.number c.truncated.result)
    c.truncated.ensures.value c.shl_by.ensures c.requires.width c.requires.storage c.requires.within
