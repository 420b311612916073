use Rattle.arbitrary_base.proofs.bit_lists.SignBit.{shr-narrow_value, shr-narrow_range}
use Rattle.arbitrary_base.proofs.shifts.shr.Goals as goal

pub returns-clause-value : goal.returns-clause-value
returns-clause-value g c =
    shr-narrow_value g.T.Storage.SIGNED c.args.bits g.T.Storage.WIDTH c.args.amount (g.T.Storage.number c.args.x) (g.T.Storage.number c.truncated.result) (g.T.Storage.number c.shr_by.result)
    c.shr_by.ensures c.truncated.ensures.value c.truncated.ensures.result_in_range c.requires.width c.requires.storage c.requires.within

pub returns-clause-result_in_range : goal.returns-clause-result_in_range
returns-clause-result_in_range g c =
    shr-narrow_range g.T.Storage.SIGNED c.args.bits g.T.Storage.WIDTH c.args.amount (g.T.Storage.number c.truncated.result) (g.T.Storage.number c.shr_by.result)
    c.shr_by.ensures c.truncated.ensures.result_in_range c.requires.width c.requires.storage c.requires.within
