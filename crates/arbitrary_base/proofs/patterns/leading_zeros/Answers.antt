use Rattle.std.proofs.Common.{arith}
use Rattle.arbitrary_base.proofs.bit_lists.CodeOnPatterns.{leading_pattern}
use Rattle.arbitrary_base.proofs.patterns.leading_zeros.Goals as goal

pub overflow_sub-result-2 : goal.overflow_sub-result-2
overflow_sub-result-2 c = omega (arith, leading_pattern _ _ c.requires.high c.requires.fits)

pub returns : goal.returns
returns c = omega (arith, leading_pattern _ _ c.requires.high c.requires.fits)
