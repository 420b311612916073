-- The invariant of the loop over the lines: those passed are read, and each counts once. The text left shrinks.
use Rattle.std.proofs.Common.{◌≡◌, ◌≤◌, ◌+◌, ◌-◌, List, ℕ, length, drop}
use Rattle.bitrun_text.specs.Text.{word_lines}
use Rattle.bitrun_text.specs.Form.{ReadSoFar}
use Rattle.bitrun_text.proofs.parsing.fast_steps.Given as goal

abbrev pub invariant-loop-at : goal.invariant-loop-at
invariant-loop-at g l = record {
  read : (all : List (List (List ℕ))) → ReadSoFar l.count all l.fn.steps.items l.fn.number (word_lines l.fn.text)
      → ReadSoFar l.count all l.steps.items l.number (word_lines (drop l.at l.text));
  counted : l.number + length (word_lines (drop l.at l.text)) ≡ l.fn.number + length (word_lines l.fn.text);
  order : l.fn.number ≤ l.number;
  within : l.at ≤ length l.text;
}

abbrev pub decreases-loop-at : goal.decreases-loop-at
decreases-loop-at g l = length l.text - l.at
