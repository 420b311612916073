use Rattle.std.proofs.Common.{◌∙◌}
use Rattle.arbitrary_base.proofs.bit_lists.CodeOnPatterns.{trailing_pattern}
use Rattle.arbitrary_base.proofs.patterns.trailing_zeros.Goals as goal

pub returns : goal.returns
returns c = c.min.ensures ∙ trailing_pattern _ _ c.requires.high c.requires.fits
