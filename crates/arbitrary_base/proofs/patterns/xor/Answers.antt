-- For `xor` in src/patterns.rt: the lemma on `^` of two patterns that fit. CodeOnPatterns.antt also has those of `and` and `or`.
use Rattle.arbitrary_base.proofs.bit_lists.CodeOnPatterns.{xor_pattern}
use Rattle.arbitrary_base.proofs.patterns.xor.Goals as goal

pub returns : goal.returns
returns c = xor_pattern _ _ _ c.requires.left_fits c.requires.right_fits
