use Rattle.arbitrary_base.proofs.bit_lists.CodeOnPatterns.{or_pattern}
use Rattle.arbitrary_base.proofs.patterns.or.Goals as goal

pub returns : goal.returns
returns c = or_pattern _ _ _ c.requires.left_fits c.requires.right_fits
