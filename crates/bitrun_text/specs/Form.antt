-- Which inputs are valid, and which line of another input is the first bad one.
use Rattle.std.specs.Prelude.{◌≡◌, ℕ, zero, suc, ◌+◌, ◌-◌, ◌≤◌, ◌⊎◌, Bool, List, [], ◌∷◌, ◌++◌, length, take, drop, filter, Some, IsSome, IsSomeAnd, option_and_then, ℤ, slice_get, All}
use Rattle.std.specs.List.{AllZip, AllByRecursion}
use Rattle.arbitrary_int.specs.declared.steps.Step.{Step}
use Rattle.arbitrary_int.specs.Steps.{StepWithin}
use Rattle.bitrun_text.specs.Text.{has_items, word_lines}
use Rattle.bitrun_text.specs.Numeral.{value_named}
use Rattle.bitrun_text.specs.Kind.{kind_named, type_row, type_of}
use Rattle.bitrun_text.specs.Operation.{step_named}
use Rattle.bitrun_text.specs.declared.fault.Fault.{Fault}
use Rattle.bitrun_text.specs.declared.fault.Fault.TheVariants as faults
use Rattle.bitrun_text.specs.declared.kind.Kind.{Kind}

-- the first line names the type, the second has the numbers of the registers, each in range, and each later line
-- that has words is a step
pub record Form (lines : List (List (List ℕ))) (kind : Kind) (registers : List ℤ) (steps : List Step) : Type 0 where
  pub names_kind : option_and_then kind_named (slice_get lines 0) ≡ Some kind
  pub holds_registers : IsSomeAnd (slice_get lines 1) (λ words. AllZip (λ word x. value_named (type_row (type_of kind)).1 (type_row (type_of kind)).2 word ≡ Some x) words registers)
  pub names_steps : AllZip (λ words step. step_named (length registers) words ≡ Some step) (filter has_items (drop 2 lines)) steps

-- some lines after these lines make a valid text
unfoldable pub BeginsForm : List (List (List ℕ)) → Type 0
BeginsForm lines = (more : List (List (List ℕ))) × (kind : Kind) × (registers : List ℤ) × (steps : List Step) × Form (lines ++ more) kind registers steps

-- the first bad line, counted from 1: the lines before it begin a valid text, and with it they do not; or the first or the second
-- line is missing
pub record BadLine (input : List ℕ) (line : ℕ) : Type 0 where
  pub before : BeginsForm (take (line - 1) (word_lines input))
  pub bad : BeginsForm (take line (word_lines input)) → (line ≡ length (word_lines input) + 1) × (line ≤ 2)

-- ---- what the parts of the reader say

-- the second line
abbrev pub HasRegistersForm : Bool → ℕ → List (List ℕ) → Type 0
HasRegistersForm s B words = AllByRecursion (λ word. IsSome (value_named s B word)) words

-- a line after the second
abbrev pub HasStepForm : ℕ → List (List ℕ) → Type 0
HasStepForm count [] = Unit {0}
HasStepForm count (word ∷ words) = IsSome (step_named count (word ∷ words))

-- the word writes the number x, which is in range of the type with the sign s and the width B
abbrev pub IsValue : Bool → ℕ → List ℕ → ℤ → Type 0
IsValue s B word x = value_named s B word ≡ Some x

-- the words name the step, on `count` registers
abbrev pub IsStep : ℕ → List (List ℕ) → Step → Type 0
IsStep count words step = step_named count words ≡ Some step

-- i items come before the first item without P
abbrev pub FirstBad : {X : Type 0} → (X → Type 0) → List X → ℕ → Type 0
FirstBad P [] i = ⊥
FirstBad P (x ∷ xs) zero = P x → ⊥
FirstBad P (x ∷ xs) (suc i) = P x × FirstBad P xs i

-- some of all the lines after the second are read: the steps they name, the number of the line before the next one, and the lines left
pub record ReadSoFar (count : ℕ) (all : List (List (List ℕ))) (steps : List Step) (number : ℕ) (left : List (List (List ℕ))) : Type 0 where
  pub found : (others : List Step) → AllZip (IsStep count) (filter has_items left) others → AllZip (IsStep count) (filter has_items all) (steps ++ others)
  pub fault : (i : ℕ) → FirstBad (HasStepForm count) left i → FirstBad (HasStepForm count) all (number - 2 + i)
  pub within : All (StepWithin count) steps
  pub counted : number + length left ≡ 2 + length all
  pub start : 2 ≤ number

-- the faults that the lines after the second can have
abbrev pub StepsFault : ℕ → List (List (List ℕ)) → Fault → Type 0
StepsFault count later (faults.Line k) = (i : ℕ) × (k ≡ i + 3) × FirstBad (HasStepForm count) later i
StepsFault count later faults.Memory = Unit {0}
StepsFault count later faults.TooLong = ⊥
StepsFault count later faults.Read = ⊥
StepsFault count later faults.Write = ⊥

-- the faults that the lines from the second on can have: the second is bad, or a later one is
abbrev pub LinesFault : Bool → ℕ → List (List ℕ) → List (List (List ℕ)) → Fault → Type 0
LinesFault s B second later (faults.Line k) = ((k ≡ 2) × (HasRegistersForm s B second → ⊥))
    ⊎ (HasRegistersForm s B second × StepsFault (length second) later (faults.Line k))
LinesFault s B second later faults.Memory = Unit {0}
LinesFault s B second later faults.TooLong = ⊥
LinesFault s B second later faults.Read = ⊥
LinesFault s B second later faults.Write = ⊥

-- the faults that an input can have
abbrev pub FormFault : List ℕ → Fault → Type 0
FormFault input (faults.Line k) = BadLine input k
FormFault input faults.Memory = Unit {0}
FormFault input faults.TooLong = ⊥
FormFault input faults.Read = ⊥
FormFault input faults.Write = ⊥
