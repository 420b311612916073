use Rattle.std.proofs.Common.{◌∙◌, sym}
use Rattle.arbitrary_base.proofs.modular.Truncation.{below_residue, residue-same}
use Rattle.arbitrary_base.proofs.truncation.low_bits_in_range.Goals as goal

pub returns-else-SIGNED-clause-value : goal.returns-else-SIGNED-clause-value
returns-else-SIGNED-clause-value g c =
    residue-same g.T.Storage.SIGNED c.args.bits g.T.Storage.WIDTH _ _ (sym c.SIGNED.ensures ∙ c.if-SIGNED.false) c.requires.width c.requires.storage c.requires.x_in_range
    c.pattern.ensures.value

pub returns-else-SIGNED-clause-fits : goal.returns-else-SIGNED-clause-fits
returns-else-SIGNED-clause-fits g c = below_residue c.args.bits _ _ (returns-else-SIGNED-clause-value g c)
