-- The invariant of the loop over the empty lines: those passed have no step and one byte each. The text left shrinks.
use Rattle.std.proofs.Common.{◌≡◌, ◌≤◌, ◌+◌, ◌-◌, ℕ, List, length, drop}
use Rattle.arbitrary_int.specs.declared.steps.Step.{Step}
use Rattle.bitrun_text.specs.Text.{word_lines}
use Rattle.bitrun_text.specs.Form.{ReadSoFar}
use Rattle.bitrun_text.proofs.parsing.after_empty_lines.Given as goal

abbrev pub invariant-loop-next : goal.invariant-loop-next
invariant-loop-next l = record {
  read : (count : ℕ) → (all : List (List (List ℕ))) → (steps : List Step) → (number : ℕ) → ReadSoFar count all steps number (word_lines (drop l.at l.text))
      → ReadSoFar count all steps (number + (l.next - l.at)) (word_lines (drop l.next l.text));
  counted : (l.next - l.at) + length (word_lines (drop l.next l.text)) ≡ length (word_lines (drop l.at l.text));
  order : l.at ≤ l.next;
  within : l.next ≤ length l.text;
}

abbrev pub decreases-loop-next : goal.decreases-loop-next
decreases-loop-next l = length l.text - l.next
