use Rattle.std.proofs.Common.{◌≡◌, ℕ, ◌+◌, ◌-◌, ◌*◌, ◌^◌, ◌<◌, ◌≤◌, ◌++◌, length, drop}
use Rattle.std.specs.Fmt.{decimal}
use Rattle.bitrun_service.proofs.decimal.write_low_digits.Given as goal

abbrev pub invariant-loop-at : goal.invariant-loop-at
invariant-loop-at l = record {
  above : 22 ≤ l.at;
  within : l.at ≤ 40;
  room : length l.buffer ≡ 40;
  below : l.left < 10 ^ (l.at - 22);
  digits : (high : ℕ) → 0 < high → high < 2 ^ 64 → decimal (high * 10 ^ 18 + l.low) ≡ decimal (high * 10 ^ (l.at - 22) + l.left) ++ drop l.at l.buffer;
}

abbrev pub decreases-loop-at : goal.decreases-loop-at
decreases-loop-at l = l.at
