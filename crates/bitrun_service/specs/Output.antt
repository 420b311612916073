-- The output of an input.
use Rattle.std.specs.Prelude.{◌≡◌, ℕ, List, [], ◌∷◌, ◌++◌, Bool, filter, length, map, Result, Ok, Err, ⊤, ℤ, codes, decimal}
use Rattle.std.specs.Fmt.{signed_decimal}
use Rattle.std.specs.List.{AllZip, join_with_byte}
use Rattle.arbitrary_int.specs.Residue.{wrap}
use Rattle.arbitrary_int.specs.Runs.{RunOf}
use Rattle.arbitrary_int.specs.declared.steps.Step.{Step}
use Rattle.arbitrary_int.specs.declared.steps.Stop.{Stop}
use Rattle.arbitrary_int.specs.declared.steps.Why.{Why}
use Rattle.arbitrary_int.specs.declared.steps.Why.TheVariants.{Refused, ZeroDivisor}
use Rattle.bitrun_text.specs.Text.{has_items, word_lines}
use Rattle.bitrun_text.specs.Form.{Form, IsValue, IsStep}
use Rattle.bitrun_text.specs.Kind.{type_row, types_of, type_of}
use Rattle.bitrun_text.specs.declared.kind.Kind.{Kind}
use Rattle.bitrun_text.specs.declared.kind.Kind.TheVariants as kinds

abbrev pub cause_text : Why → List ℕ
cause_text Refused = codes "refused"
cause_text ZeroDivisor = codes "zero divisor"

-- how a run ended
abbrev pub ending_text : Result ⊤ Stop → List ℕ
ending_text (Ok u) = codes "done"
ending_text (Err stop) = codes "stopped at " ++ decimal stop.at ++ codes ": " ++ cause_text stop.why

-- a line of the registers with one space between two of them, and a line that says how the run ended
abbrev pub output_text : List ℤ × Result ⊤ Stop → List ℕ
output_text run = join_with_byte 32 (map signed_decimal run.0) ++ 10 ∷ (ending_text run.1 ++ 10 ∷ [])

-- the registers, the truncation of them at the sign s and the width B, and how the run ended
abbrev pub wide_output_text : Bool → ℕ → List ℤ × Result ⊤ Stop → List ℕ
wide_output_text s B run = join_with_byte 32 (map signed_decimal run.0) ++ 10 ∷ output_text (map (wrap s B) run.0, run.1)

abbrev pub text_for : Kind → List ℤ × Result ⊤ Stop → List ℕ
text_for (kinds.Run type) = output_text
text_for (kinds.Wide pair) = wide_output_text (type_row (types_of pair).1).1 (type_row (types_of pair).1).2

pub record IsOutput (input text : List ℕ) : Type 0 where
  pub kind : Kind
  pub registers : List ℤ
  pub steps : List Step
  pub form : Form (word_lines input) kind registers steps
  pub written : text ≡ text_for kind (RunOf (type_row (type_of kind)).1 (type_row (type_of kind)).2 steps registers)

-- ---- what the parts of the writer say

abbrev pub after_space : ℤ → List ℕ
after_space x = 32 ∷ signed_decimal x

-- the output of the lines from the second on; the first line gives the sign s and the width B of the type, and `write`
pub record IsOutputAt (s : Bool) (B : ℕ) (write : List ℤ × Result ⊤ Stop → List ℕ) (second : List (List ℕ)) (later : List (List (List ℕ))) (text : List ℕ) : Type 0 where
  pub registers : List ℤ
  pub steps : List Step
  pub holds_registers : AllZip (IsValue s B) second registers
  pub names_steps : AllZip (IsStep (length registers)) (filter has_items later) steps
  pub written : text ≡ write (RunOf s B steps registers)
