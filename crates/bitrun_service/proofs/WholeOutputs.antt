-- The output of the lines is the output of the input, and each line of an input with an output has its form.
use Rattle.std.proofs.Common.{◌≡◌, ℕ, List, ◌∷◌, Some}
use Rattle.bitrun_text.specs.Text.{word_lines}
use Rattle.bitrun_text.specs.Kind.{kind_named, type_row, type_of}
use Rattle.bitrun_text.specs.Form.{BadLine}
use Rattle.bitrun_text.specs.declared.kind.Kind.{Kind}
use Rattle.bitrun_text.proofs.Forms.{no_first_line, first_line_bad, no_second_line, fault_of_lines, no_bad_line}
use Rattle.bitrun_service.specs.Output.{IsOutput, IsOutputAt, text_for}

pub output_of_lines : (input : List ℕ) (first : List (List ℕ)) (kind : Kind) → kind_named first ≡ Some kind
    → (second : List (List ℕ)) (later : List (List (List ℕ))) → word_lines input ≡ first ∷ second ∷ later
    → (text : List ℕ) → IsOutputAt (type_row (type_of kind)).1 (type_row (type_of kind)).2 (text_for kind) second later text → IsOutput input text
output_of_lines input first kind named second later lines text output = record {
  kind = kind;
  registers = output.registers;
  steps = output.steps;
  form = rw lines (record {
    names_kind = named;
    holds_registers = output.holds_registers;
    names_steps = output.names_steps;
  });
  written = output.written;
}

pub output_is_fine : (input text : List ℕ) → IsOutput input text → (line : ℕ) → BadLine input line → ⊥
output_is_fine input text output = no_bad_line input output.kind output.registers output.steps output.form

pub ruleset outputs = (no_first_line, first_line_bad, no_second_line, fault_of_lines, output_of_lines)
