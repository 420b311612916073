use Rattle.arbitrary_base.proofs.bit_lists.CodeOnPatterns.{trailing_ones_pattern, not_fits}
use Rattle.arbitrary_base.proofs.patterns.trailing_ones.Goals as goal

pub trailing_zeros-requires-clause-fits : goal.trailing_zeros-requires-clause-fits
trailing_zeros-requires-clause-fits c = not_fits _ _ _ c.not.ensures

pub returns : goal.returns
returns c = trailing_ones_pattern _ _ _ _ c.not.ensures c.trailing_zeros.ensures
