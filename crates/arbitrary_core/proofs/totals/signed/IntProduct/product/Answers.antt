use Rattle.std.specs.List.{fold}
use Rattle.std.specs.Prelude.{[], ◌*ℤ◌}
use Rattle.std.proofs.Common.{ap, refl, subst, sym, ◌∙◌}
use Rattle.arbitrary_base.specs.Range.{InRange}
use Rattle.arbitrary_base.proofs.modular.ExactOrCongruent.{wrapped-exact}
use Rattle.arbitrary_core.proofs.totals.signed.IntProduct.product.Goals as goal

pub product_from-requires-clause-fits : goal.product_from-requires-clause-fits
product_from-requires-clause-fits g c = λ items t y.
    let one = wrapped-exact _ _ _ _ g.met.T.HasWidth.valid_law.0 (c.requires.fits [] c.args.iter refl) c.one.ensures in
    subst (λ z. InRange g.T.Storage.SIGNED g.row.BITS (fold ◌*ℤ◌ z items)) (sym one) (c.requires.fits items t y)

pub returns : goal.returns
returns g c =
    let one = wrapped-exact _ _ _ _ g.met.T.HasWidth.valid_law.0 (c.requires.fits [] c.args.iter refl) c.one.ensures in
    let items = c.product_from.ensures.0 in
    record { ran = (items, (λ _. c.product_from.ensures.1), c.product_from.ensures.2 ∙ ap (λ z. fold ◌*ℤ◌ z items) one) }
