use Rattle.arbitrary_base.proofs.bit_lists.CodeOnPatterns.{not_pattern}
use Rattle.arbitrary_base.proofs.patterns.not.Goals as goal

pub returns : goal.returns
returns c = not_pattern _ _ _ c.requires.fits c.low_mask.ensures.value
