use Rattle.arbitrary_base.proofs.integers.ExactProduct.{product-test}
use Rattle.arbitrary_base.proofs.raised.is_exact.Goals as goal

pub returns-else-is_zero : goal.returns-else-is_zero
returns-else-is_zero g c =
    product-test g.T.Storage.SIGNED g.T.Storage.WIDTH (g.T.Storage.number c.args.x) (g.T.Storage.number c.args.y) _ _ _ _ (g.met.T.Storage.width_law.0)
    c.requires.x_in_range c.requires.y_in_range c.is_zero.ensures c.if-is_zero.false c.requires.factor c.requires.product c.wrapping_div.ensures c.equal.ensures
