use Rattle.std.specs.List.{fold}
use Rattle.std.specs.Prelude.{◌+ℤ◌}
use Rattle.std.proofs.Common.{ap, subst, sym, ◌∙◌}
use Rattle.arbitrary_base.specs.Range.{InRange}
use Rattle.arbitrary_core.proofs.totals.signed.IntSum.sum.Goals as goal

pub sum_from-requires-clause-fits : goal.sum_from-requires-clause-fits
sum_from-requires-clause-fits g c = λ items t y.
    subst (λ z. InRange g.T.Storage.SIGNED g.row.BITS (fold ◌+ℤ◌ z items)) (sym c.default.ensures) (c.requires.fits items t y)

pub returns : goal.returns
returns g c =
    let items = c.sum_from.ensures.0 in
    record { ran = (items, (λ _. c.sum_from.ensures.1), c.sum_from.ensures.2 ∙ ap (λ z. fold ◌+ℤ◌ z items) c.default.ensures) }
