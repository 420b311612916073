use Rattle.std.proofs.Common.{◌∙◌}
use Rattle.arbitrary_base.proofs.modular.ExactOrCongruent.{wrapped-exact}
use Rattle.arbitrary_core.proofs.unsigned.UInt.from_u64.Goals as goal

pub returns : goal.returns
returns g c = c.new.ensures ∙ wrapped-exact _ _ _ _ c.requires.width.0 c.requires.value_in_range c.cast.ensures.value
