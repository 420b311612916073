use Rattle.arbitrary_base.proofs.modular.Truncation.{InRange-wider}
use Rattle.arbitrary_base.proofs.storages.Clamp.{clamp-InRange}
use Rattle.arbitrary_base.proofs.integers.Squaring.{count-bound, far-end}
use Rattle.arbitrary_base.proofs.power.saturating_pow_counted.Goals as goal
use Rattle.arbitrary_base.proofs.power.saturating_pow_counted.Goals.{in-Some, in-None}

pub exact_power-requires-clause-x_in_range : goal.exact_power-requires-clause-x_in_range
exact_power-requires-clause-x_in_range g c = InRange-wider _ _ _ _ c.requires.width c.tested_bits.ensures.low c.requires.x_in_range

pub returns-clause-value : goal.returns-clause-value
returns-clause-value g c =
    let s = g.T.Storage.SIGNED in
    elim c.match-exact_power.branch [
      | in-Some w ↦ let clamped = w.clamped-power.ensures in let exact = w.in-Some.ensures.value in rw w.power-is (cc)
      | in-None w ↦ rw w.power-is (far-end s _ _ _ _ _ c.requires.width c.tested_bits.ensures.low w.in-None.ensures.value w.is_power_below_zero.ensures w.end-power.ensures)
    ]

pub returns-clause-result_in_range : goal.returns-clause-result_in_range
returns-clause-result_in_range g c = clamp-InRange _ _ _ _ c.requires.width (returns-clause-value g c)

pub returns-clause-bound : goal.returns-clause-bound
returns-clause-bound g c = count-bound _ _ c.ranges.exp.fits c.exact_power.ensures.counted
