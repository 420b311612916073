use Rattle.arbitrary_base.proofs.bit_lists.CodeOnPatterns.{ones_pattern}
use Rattle.arbitrary_base.proofs.patterns.count_ones.Goals as goal

pub returns : goal.returns
returns c = ones_pattern _ _ c.requires.fits
