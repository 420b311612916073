use Rattle.std.proofs.Common.{◌∙◌}
use Rattle.arbitrary_core.proofs.NaturalTotals.{natural_sum, in_range-natural}
use Rattle.arbitrary_core.proofs.totals.unsigned.UIntSum.sum.Goals as goal

pub sum_from-requires-clause-fits : goal.sum_from-requires-clause-fits
sum_from-requires-clause-fits g c = λ items t y. in_range-natural _ _ _ _ g.met.T.UnsignedStorage.unsigned_law (natural_sum _ 0 items c.default.ensures) (c.requires.fits items t y)

pub returns : goal.returns
returns g c = record { ran = (c.sum_from.ensures.0, (λ _. c.sum_from.ensures.1), c.sum_from.ensures.2 ∙ natural_sum _ 0 c.sum_from.ensures.0 c.default.ensures) }
