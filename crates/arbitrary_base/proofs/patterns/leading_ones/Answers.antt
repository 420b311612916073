use Rattle.arbitrary_base.proofs.bit_lists.CodeOnPatterns.{leading_ones_pattern, not_fits}
use Rattle.arbitrary_base.proofs.patterns.leading_ones.Goals as goal

pub leading_zeros-requires-clause-fits : goal.leading_zeros-requires-clause-fits
leading_zeros-requires-clause-fits c = not_fits _ _ _ c.not.ensures

pub returns : goal.returns
returns c = leading_ones_pattern _ _ _ _ c.not.ensures c.leading_zeros.ensures
