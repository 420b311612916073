use Rattle.std.proofs.Common.{refl}
use Rattle.arbitrary_int.specs.Ranges.{values_left}
use Rattle.arbitrary_int.proofs.RangeRuns.{counts_up, numbers-most}
use Rattle.arbitrary_int.proofs.ranges.range_inclusive.Goals as goal

pub returns-clause-runs : goal.returns-clause-runs
returns-clause-runs g c = counts_up g.V.Numbered.number (λ r. values_left r.done (g.V.Numbered.number r.start) (g.V.Numbered.number r.end)) _ _ _ refl

pub returns-clause-bound : goal.returns-clause-bound
returns-clause-bound g c = numbers-most _ _ _ _ (g.met.V.Numbered.width_law c.to_u128_bits.ensures.width).0 c.to_u128_bits.ensures.self_in_range c.to_u128_bits-2.ensures.self_in_range
