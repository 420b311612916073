-- The words of a step, and the step that they name.
use Rattle.std.specs.Prelude.{ℕ, ◌^◌, ◌==◌, List, [], ◌∷◌, length, Option, Some, None, option_map, option_and_then, if◌then◌else◌, codes, bytes_eq}
use Rattle.std.specs.List.{find}
use Rattle.std.specs.Option.{option_zip}
use Rattle.arbitrary_int.specs.declared.steps.Step.{Step}
use Rattle.arbitrary_int.specs.declared.steps.Step.TheVariants as steps
use Rattle.arbitrary_int.specs.declared.steps.TwoOp.TheVariants.{WrappingAdd, WrappingSub, WrappingMul, WrappingDiv, SaturatingAdd, SaturatingSub, SaturatingMul, SaturatingDiv, CheckedAdd, CheckedSub, CheckedMul, CheckedDiv, And, Or, Xor}
use Rattle.arbitrary_int.specs.declared.steps.OneOp.TheVariants.{Not, ReverseBits, WrappingNeg}
use Rattle.arbitrary_int.specs.declared.steps.ByOp.TheVariants.{WrappingShl, WrappingShr, CheckedShl, CheckedShr, RotateLeft, RotateRight, SaturatingPow}
use Rattle.bitrun_text.specs.Numeral.{number_below}
use Rattle.bitrun_text.specs.declared.operation.Operation.{Operation}
use Rattle.bitrun_text.specs.declared.operation.Operation.TheVariants.{Two, One, By}

-- each name, and its operation
abbrev pub operation_rows : List (List ℕ × Operation)
operation_rows =
    (codes "wadd", Two WrappingAdd) ∷ (codes "wsub", Two WrappingSub) ∷
    (codes "wmul", Two WrappingMul) ∷ (codes "wdiv", Two WrappingDiv) ∷
    (codes "sadd", Two SaturatingAdd) ∷ (codes "ssub", Two SaturatingSub) ∷
    (codes "smul", Two SaturatingMul) ∷ (codes "sdiv", Two SaturatingDiv) ∷
    (codes "cadd", Two CheckedAdd) ∷ (codes "csub", Two CheckedSub) ∷
    (codes "cmul", Two CheckedMul) ∷ (codes "cdiv", Two CheckedDiv) ∷
    (codes "and", Two And) ∷ (codes "or", Two Or) ∷ (codes "xor", Two Xor) ∷
    (codes "not", One Not) ∷ (codes "rev", One ReverseBits) ∷ (codes "neg", One WrappingNeg) ∷
    (codes "wshl", By WrappingShl) ∷ (codes "wshr", By WrappingShr) ∷
    (codes "cshl", By CheckedShl) ∷ (codes "cshr", By CheckedShr) ∷
    (codes "rotl", By RotateLeft) ∷ (codes "rotr", By RotateRight) ∷ (codes "spow", By SaturatingPow) ∷ []

-- the operation that a word names
unfoldable pub operation_named : List ℕ → Option Operation
operation_named word = option_map (λ row. row.1) (find (λ row. bytes_eq word row.0) operation_rows)

-- the step of an operation on `count` registers, with the words after its name
unfoldable pub step_with : ℕ → Operation → List (List ℕ) → Option Step
step_with count (Two op) (to ∷ left ∷ right ∷ []) = option_map (λ n. steps.Two op n.0 n.1.0 n.1.1)
    (option_zip (number_below count to) (option_zip (number_below count left) (number_below count right)))
step_with count (One op) (to ∷ src ∷ []) = option_map (λ n. steps.One op n.0 n.1)
    (option_zip (number_below count to) (number_below count src))
step_with count (By op) (to ∷ src ∷ amount ∷ []) = option_map (λ n. steps.By op n.0 n.1.0 n.1.1)
    (option_zip (number_below count to) (option_zip (number_below count src) (number_below (2 ^ 32) amount)))
step_with count operation words = None

-- the step that the words of a line name
unfoldable pub step_named : ℕ → List (List ℕ) → Option Step
step_named count [] = None
step_named count (word ∷ operands) = option_and_then (λ operation. step_with count operation operands) (operation_named word)

-- ---- what the parts of the reader say

-- the step, if no words are left
abbrev pub at_end : List (List ℕ) → Step → Option Step
at_end words step = if length words == 0 then Some step else None
