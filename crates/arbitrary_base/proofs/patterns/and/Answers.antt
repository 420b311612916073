use Rattle.arbitrary_base.proofs.bit_lists.CodeOnPatterns.{and_pattern}
use Rattle.arbitrary_base.proofs.patterns.and.Goals as goal

pub returns : goal.returns
returns c = and_pattern _ _ _ c.requires.left_fits c.requires.right_fits
