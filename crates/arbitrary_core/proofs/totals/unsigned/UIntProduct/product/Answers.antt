use Rattle.std.proofs.Common.{◌∙◌}
use Rattle.arbitrary_core.proofs.NaturalTotals.{natural_product, in_range-natural}
use Rattle.arbitrary_core.proofs.totals.unsigned.UIntProduct.product.Goals as goal

pub product_from-requires-clause-fits : goal.product_from-requires-clause-fits
product_from-requires-clause-fits g c = λ items t y. in_range-natural _ _ _ _ g.met.T.UnsignedStorage.unsigned_law (natural_product _ 1 items c.one.ensures) (c.requires.fits items t y)

pub returns : goal.returns
returns g c = record { ran = (c.product_from.ensures.0, (λ _. c.product_from.ensures.1), c.product_from.ensures.2 ∙ natural_product _ 1 c.product_from.ensures.0 c.one.ensures) }
