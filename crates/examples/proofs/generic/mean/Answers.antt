use Rattle.std.proofs.Common.{refl, ◌∙◌}
use Rattle.examples.proofs.Means.{mean-is}
use Rattle.examples.proofs.generic.mean.Goals as goal

pub from_-requires-clause-value_in_range : goal.from_-requires-clause-value_in_range
from_-requires-clause-value_in_range g c _ =
    (mean-is g.T.Numbered.IS_SIGNED g.T.Numbered.BITS c.to_u128_bits-a.result c.to_u128_bits-b.result _ (g.T.Numbered.number c.args.a) (g.T.Numbered.number c.args.b) g.met.T.UnsignedInteger.unsigned_law (g.met.T.Numbered.width_law c.to_u128_bits-a.ensures.width)
    c.to_u128_bits-a.ensures.self_in_range c.to_u128_bits-b.ensures.self_in_range c.to_u128_bits-a.ensures.value c.to_u128_bits-b.ensures.value refl).0

pub returns : goal.returns
returns g c =
    c.from_.ensures.value
    ∙ (mean-is g.T.Numbered.IS_SIGNED g.T.Numbered.BITS c.to_u128_bits-a.result c.to_u128_bits-b.result _ (g.T.Numbered.number c.args.a) (g.T.Numbered.number c.args.b) g.met.T.UnsignedInteger.unsigned_law (g.met.T.Numbered.width_law c.to_u128_bits-a.ensures.width)
    c.to_u128_bits-a.ensures.self_in_range c.to_u128_bits-b.ensures.self_in_range c.to_u128_bits-a.ensures.value c.to_u128_bits-b.ensures.value refl).1
