-- The first line that does not have its form. An input of the form has no such line.
use Rattle.std.proofs.Common.{◌≡◌, ℕ, zero, suc, ◌+◌, ◌-◌, ◌≤◌, Bool, List, [], ◌∷◌, ◌++◌, length, take, drop, map, filter, slice_get, codes, Option, Some, None, IsSome, IsSomeAnd, ℤ, refl, sym, ap, ◌∙◌, inl, inr, arith, lit≤, append-nil, length-drop}
use Rattle.std.specs.List.{AllZip, position_or_len, after_first}
use Rattle.std.proofs.lemmas.List.{length-map, take-append-drop}
use Rattle.std.proofs.lemmas.Bool.{cases_lt}
use Rattle.arbitrary_int.specs.declared.steps.Step.{Step}
use Rattle.bitrun_text.specs.Text.{has_items, ends_line, word_lines}
use Rattle.bitrun_text.specs.Numeral.{value_named}
use Rattle.bitrun_text.specs.Kind.{kind_named, type_named, type_row, type_of}
use Rattle.bitrun_text.specs.Operation.{step_named}
use Rattle.bitrun_text.specs.Form.{Form, BeginsForm, BadLine, HasRegistersForm, HasStepForm, FirstBad, IsValue, IsStep, StepsFault, LinesFault, FormFault}
use Rattle.bitrun_text.specs.declared.fault.Fault.{Fault}
use Rattle.bitrun_text.specs.declared.fault.Fault.TheVariants as faults
use Rattle.bitrun_text.specs.declared.kind.Kind.{Kind}
use Rattle.bitrun_text.specs.declared.kind.Kind.TheVariants.{Run}
use Rattle.bitrun_text.specs.declared.kind.RegisterType.TheVariants.{U1}
use Rattle.bitrun_text.proofs.Lines.{no_line, left-line, left-later}

some_from : {A : Type 0} (o : Option A) (x : A) → o ≡ Some x → IsSome o
some_from o x e = rw e refl

pub values_are : (s : Bool) (B : ℕ) (words : List (List ℕ)) (registers : List ℤ) → AllZip (IsValue s B) words registers → HasRegistersForm s B words
values_are s B [] registers h = tt
values_are s B (word ∷ words) [] h = absurd h
values_are s B (word ∷ words) (x ∷ registers) h = (some_from (value_named s B word) x h.0, values_are s B words registers h.1)

pub as_long : {A B : Type 0} (R : A → B → Type 0) (xs : List A) (ys : List B) → AllZip R xs ys → length xs ≡ length ys
as_long R [] [] h = refl
as_long R [] (y ∷ ys) h = absurd h
as_long R (x ∷ xs) [] h = absurd h
as_long R (x ∷ xs) (y ∷ ys) h = ap suc (as_long R xs ys h.1)

-- ---- what begins the form

some_of : {A : Type 0} (o : Option A) → IsSome o → (x : A) × (o ≡ Some x)
some_of None some = absurd cc
some_of (Some x) some = (x, refl)

values_of : (s : Bool) (B : ℕ) (words : List (List ℕ)) → HasRegistersForm s B words → (registers : List ℤ) × AllZip (IsValue s B) words registers
values_of s B [] fine = ([], tt)
values_of s B (word ∷ words) fine =
    let value = some_of (value_named s B word) fine.0 in
    let values = values_of s B words fine.1 in
    (value.0 ∷ values.0, (value.1, values.1))

-- the lines before the first bad one have their steps
steps_of : (count : ℕ) (later : List (List (List ℕ))) (i : ℕ) → FirstBad (HasStepForm count) later i → (steps : List Step) × AllZip (IsStep count) (filter has_items (take i later)) steps
steps_of count [] i bad = absurd bad
steps_of count (line ∷ later) zero bad = ([], tt)
steps_of count ([] ∷ later) (suc i) bad = steps_of count later i bad.1
steps_of count ((word ∷ words) ∷ later) (suc i) bad =
    let step = some_of (step_named count (word ∷ words)) bad.0 in
    let steps = steps_of count later i bad.1 in
    (step.0 ∷ steps.0, (step.1, steps.1))

-- with the bad one they haven't, whatever follows
no_steps : (count : ℕ) (later more : List (List (List ℕ))) (i : ℕ) (steps : List Step) → FirstBad (HasStepForm count) later i
    → AllZip (IsStep count) (filter has_items (take (suc i) later ++ more)) steps → ⊥
no_steps count [] more i steps bad named = bad
no_steps count ([] ∷ later) more zero steps bad named = bad tt
no_steps count ([] ∷ later) more (suc i) steps bad named = no_steps count later more i steps bad.1 named
no_steps count ((word ∷ words) ∷ later) more i [] bad named = named
no_steps count ((word ∷ words) ∷ later) more zero (step ∷ steps) bad named = bad (some_from (step_named count (word ∷ words)) step named.0)
no_steps count ((word ∷ words) ∷ later) more (suc i) (step ∷ steps) bad named = no_steps count later more i steps bad.1 named.1

none_begins : BeginsForm []
unfolding BeginsForm kind_named type_named
none_begins = ((codes "run" ∷ codes "u1" ∷ []) ∷ [] ∷ [], Run U1, [], [], record { names_kind = refl; holds_registers = tt; names_steps = tt })

first_begins : (first : List (List ℕ)) (kind : Kind) → kind_named first ≡ Some kind → BeginsForm (first ∷ [])
unfolding BeginsForm
first_begins first kind named = ([] ∷ [], kind, [], [], record { names_kind = named; holds_registers = tt; names_steps = tt })

-- ---- a bad line

pub no_first_line : (input : List ℕ) → word_lines input ≡ [] → BadLine input 1
no_first_line input lines = record { before = none_begins; bad = λ begins. (rw lines refl, lit≤ tt) }

pub first_line_bad : (input : List ℕ) (first : List (List ℕ)) (later : List (List (List ℕ))) → word_lines input ≡ first ∷ later → kind_named first ≡ None → BadLine input 1
unfolding BeginsForm
first_line_bad input first later lines none = record { before = none_begins; bad = rw lines (λ begins. absurd (let named = begins.4.names_kind in cc)) }

-- where the second line is good, a fault of the later lines is one of the lines from the second on
pub fault_of_steps : {T : Type 0} (number : T → ℤ) (s : Bool) (B : ℕ) (second : List (List ℕ)) (later : List (List (List ℕ))) (registers : List T) (fault : Fault)
    → AllZip (IsValue s B) second (map number registers) → StepsFault (length registers) later fault → LinesFault s B second later fault
fault_of_steps number s B second later registers (faults.Line k) holds h =
    let count : length second ≡ length registers = as_long (IsValue s B) second (map number registers) holds ∙ length-map registers number in
    inr (values_are s B second (map number registers) holds, rw count h)
fault_of_steps number s B second later registers faults.Memory holds h = tt
fault_of_steps number s B second later registers faults.TooLong holds h = absurd h
fault_of_steps number s B second later registers faults.Read holds h = absurd h
fault_of_steps number s B second later registers faults.Write holds h = absurd h

module _ (input : List ℕ) (first : List (List ℕ)) (kind : Kind) (named : kind_named first ≡ Some kind) where
  pub no_second_line : word_lines input ≡ first ∷ [] → BadLine input 2
  no_second_line lines = record { before = rw lines (first_begins first kind named); bad = λ begins. (rw lines refl, lit≤ tt) }

  module _ (second : List (List ℕ)) (later : List (List (List ℕ))) (lines : word_lines input ≡ first ∷ second ∷ later) where
    second_values : (other : Kind) (registers : List ℤ) → kind_named first ≡ Some other
        → AllZip (IsValue (type_row (type_of other)).1 (type_row (type_of other)).2) second registers → AllZip (IsValue (type_row (type_of kind)).1 (type_row (type_of kind)).2) second registers
    second_values other registers also values = let same : other ≡ kind = cc in rw same at values

    second_line_bad : (HasRegistersForm (type_row (type_of kind)).1 (type_row (type_of kind)).2 second → ⊥) → BadLine input 2
    unfolding BeginsForm
    second_line_bad bad = record {
      before = rw lines (first_begins first kind named);
      bad = rw lines (λ begins. absurd (bad (values_are (type_row (type_of kind)).1 (type_row (type_of kind)).2 second begins.2 (second_values begins.1 begins.2 begins.4.names_kind begins.4.holds_registers))));
    }

    later_line_bad : HasRegistersForm (type_row (type_of kind)).1 (type_row (type_of kind)).2 second → (i : ℕ) → FirstBad (HasStepForm (length second)) later i → BadLine input (i + 3)
    unfolding BeginsForm
    later_line_bad fine i bad =
        let s = (type_row (type_of kind)).1 in
        let B = (type_row (type_of kind)).2 in
        let place : i + 3 ≡ suc (suc (suc i)) = omega arith in
        let previous : i + 3 - 1 ≡ suc (suc i) = omega arith in
        let values = values_of s B second fine in
        let steps = steps_of (length second) later i bad in
        let form : Form (first ∷ second ∷ (take i later ++ [])) kind values.0 steps.0 = record {
          names_kind = named;
          holds_registers = values.1;
          names_steps = rw (append-nil (take i later), sym (as_long (IsValue s B) second values.0 values.1)) steps.1;
        } in
        record {
          before = rw (previous, lines) (([], kind, values.0, steps.0, form));
          bad = rw (place, lines) (λ begins. absurd (
              let count = as_long (IsValue s B) second begins.2 (second_values begins.1 begins.2 begins.4.names_kind begins.4.holds_registers) in
              no_steps (length second) later begins.0 i begins.3 bad (rw count begins.4.names_steps)));
        }

    -- a fault of the lines from the second on is one of the input
    pub fault_of_lines : (fault : Fault) → LinesFault (type_row (type_of kind)).1 (type_row (type_of kind)).2 second later fault → FormFault input fault
    fault_of_lines (faults.Line k) (inl h) = rw h.0 (second_line_bad h.1)
    fault_of_lines (faults.Line k) (inr h) = rw h.1.1 (later_line_bad h.0 h.1.0 h.1.2)
    fault_of_lines faults.Memory h = tt
    fault_of_lines faults.TooLong h = absurd h
    fault_of_lines faults.Read h = absurd h
    fault_of_lines faults.Write h = absurd h

-- ---- an input of the form has no bad line

two_lines : (P : List (List ℕ) → Type 0) (lines : List (List (List ℕ))) → IsSomeAnd (slice_get lines 1) P → 2 ≤ length lines
two_lines P [] some = absurd some
two_lines P (first ∷ []) some = absurd some
two_lines P (first ∷ second ∷ later) some = omega arith

pub no_bad_line : (input : List ℕ) (kind : Kind) (registers : List ℤ) (steps : List Step) → Form (word_lines input) kind registers steps → (line : ℕ) → BadLine input line → ⊥
unfolding BeginsForm
no_bad_line input kind registers steps form line bad =
    let lines = word_lines input in
    let missing = bad.bad (drop line lines, kind, registers, steps, rw (take-append-drop line lines) form) in
    let long : 2 ≤ length lines = two_lines (λ words. AllZip (IsValue (type_row (type_of kind)).1 (type_row (type_of kind)).2) words registers) lines form.holds_registers in
    omega (arith, missing.0, missing.1, long)

-- ---- there are no more lines than bytes

lines_within : (n : ℕ) (text : List ℕ) → length text ≤ n → length (word_lines text) ≤ n
lines_within zero text short = rw (no_line text (omega (arith, short))) (omega arith)
lines_within (suc n) text short =
    elim (cases_lt 0 (length text)) [
      | inl some ↦
          let after = after_first ends_line text in
          let rest = lines_within n after (omega (arith, short, length-drop (position_or_len ends_line text + 1) text)) in
          omega (arith, rest, ap length (left-line text some), ap length (left-later text))
      | inr none ↦ rw (no_line text (omega (arith, none))) (omega arith)
    ]

pub length-word_lines : (text : List ℕ) → length (word_lines text) ≤ length text
length-word_lines text = lines_within (length text) text (omega arith)
