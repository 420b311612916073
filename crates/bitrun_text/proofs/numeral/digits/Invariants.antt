-- The invariant of the loop over the digits: those before the place write the number. The text left shrinks.
use Rattle.std.proofs.Common.{◌≤◌, ◌<◌, ◌+◌, ◌-◌, ◌*◌, ◌^◌, length, drop}
use Rattle.bitrun_text.specs.Fast.{Reads}
use Rattle.bitrun_text.proofs.numeral.digits.Given as goal

abbrev pub invariant-loop-at : goal.invariant-loop-at
invariant-loop-at l = record {
  reads : Reads (drop l.start l.text) (l.at - l.start) l.number;
  small : 10 * l.number + 10 ≤ 2 ^ 64;
  below : l.start < l.at → l.number < l.limit;
  order : l.start ≤ l.at;
  within : l.at ≤ length l.text;
}

abbrev pub decreases-loop-at : goal.decreases-loop-at
decreases-loop-at l = length l.text - l.at
