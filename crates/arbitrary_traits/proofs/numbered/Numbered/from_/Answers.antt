use Rattle.std.proofs.Common.{◌∙◌}
use Rattle.arbitrary_base.proofs.modular.Residue.{wrap-of_in_range}
use Rattle.arbitrary_traits.proofs.numbered.Numbered.from_.Goals as goal

pub returns-clause-value : goal.returns-clause-value
returns-clause-value g c =
    c.masked_new.ensures.value
    ∙ wrap-of_in_range g.Self.Numbered.IS_SIGNED g.Self.Numbered.BITS _ (g.met.Self.Numbered.width_law c.requires.width).0 (c.requires.value_in_range c.masked_new.ensures.value_in_range)
