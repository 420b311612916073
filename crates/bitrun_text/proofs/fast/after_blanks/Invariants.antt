-- The invariant of the loop over the blanks: those before the place do not change the step. The text left shrinks.
use Rattle.std.proofs.Common.{◌≡◌, ◌≤◌, ◌<◌, ◌-◌, length, drop}
use Rattle.bitrun_text.specs.Text.{left_of}
use Rattle.bitrun_text.specs.Fast.{Ends}
use Rattle.bitrun_text.proofs.fast.after_blanks.Given as goal

abbrev pub invariant-loop-at : goal.invariant-loop-at
invariant-loop-at l = record {
  same : left_of (drop l.at l.text) ≡ left_of (drop l.start l.text);
  ends : l.start < l.at → Ends (drop l.start l.text);
  order : l.start ≤ l.at;
  within : l.at ≤ length l.text;
}

abbrev pub decreases-loop-at : goal.decreases-loop-at
decreases-loop-at l = length l.text - l.at
