-- What one more line of a step changes.
use Rattle.std.proofs.Common.{◌≡◌, ◌<◌, ◌+◌, ◌-◌, ℕ, suc, List, [], ◌∷◌, ◌++◌, length, filter, Some, None, is_some, true, sym, refl, ap, ◌∙◌, arith, append_assoc}
use Rattle.std.specs.List.{AllZip, after_first}
use Rattle.std.proofs.lemmas.List.Elements.{All-push}
use Rattle.arbitrary_int.specs.declared.steps.Step.{Step}
use Rattle.arbitrary_int.specs.Steps.{StepWithin}
use Rattle.bitrun_text.specs.Text.{ends_line, has_items, word_lines, Left, left_of}
use Rattle.bitrun_text.specs.Operation.{step_named}
use Rattle.bitrun_text.specs.Fast.{EndsLine, NamesLine}
use Rattle.bitrun_text.specs.Form.{IsStep, HasStepForm, FirstBad, ReadSoFar}
use Rattle.bitrun_text.proofs.Lines.{left-line, left-later}

some_words : (count : ℕ) (words : List (List ℕ)) (step : Step) → Some step ≡ step_named count words → (word : List ℕ) × (operands : List (List ℕ)) × (words ≡ word ∷ operands)
unfolding step_named
some_words count [] step named = absurd cc
some_words count (word ∷ operands) step named = (word, operands, refl)

-- the lines are one of these words, and the rest
module _ (count : ℕ) (lines rest after : List (List (List ℕ))) (words : List (List ℕ)) (taken : lines ≡ words ∷ rest) (same : after ≡ rest) where
  blank-found : words ≡ [] → (steps : List Step) → AllZip (IsStep count) (filter has_items after) steps → AllZip (IsStep count) (filter has_items lines) steps
  blank-found blank steps found = rw (taken, blank, ← same) found

  blank-fault : words ≡ [] → (i : ℕ) → FirstBad (HasStepForm count) after i → FirstBad (HasStepForm count) lines (suc i)
  blank-fault blank i bad = rw (taken, blank, ← same) (tt, bad)

  module _ (word : List ℕ) (operands : List (List ℕ)) (split : words ≡ word ∷ operands) where
    step-found : (step : Step) → Some step ≡ step_named count (word ∷ operands)
        → (steps : List Step) → AllZip (IsStep count) (filter has_items after) steps → AllZip (IsStep count) (filter has_items lines) (step ∷ steps)
    step-found step named steps found = rw (taken, split, ← same) (sym named, found)

    step-fault : (step : Step) → Some step ≡ step_named count (word ∷ operands)
        → (i : ℕ) → FirstBad (HasStepForm count) after i → FirstBad (HasStepForm count) lines (suc i)
    step-fault step named i bad = rw (taken, split, ← same) (rw (← named) refl, bad)

    pub bad-fault : None ≡ step_named count (word ∷ operands) → FirstBad (HasStepForm count) lines 0
    bad-fault none = rw (taken, split) (λ some. absurd (let k : is_some (step_named count (word ∷ operands)) ≡ true = some in let h = rw (← none) at k in cc))

  -- one line more is read
  module _ (all : List (List (List ℕ))) (steps : List Step) (number : ℕ) (so_far : ReadSoFar count all steps number lines) where
    fault-later : ((i : ℕ) → FirstBad (HasStepForm count) after i → FirstBad (HasStepForm count) lines (suc i))
        → (i : ℕ) → FirstBad (HasStepForm count) after i → FirstBad (HasStepForm count) all (number + 1 - 2 + i)
    fault-later one i bad =
        let start = so_far.start in
        let e : number + 1 - 2 + i ≡ number - 2 + suc i = omega arith in
        rw e (so_far.fault (suc i) (one i bad))

    counted-later : number + 1 + length after ≡ 2 + length all
    counted-later = omega (arith, so_far.counted, ap length taken, ap length same)

    pub after_blank : words ≡ [] → ReadSoFar count all steps (number + 1) after
    after_blank blank = record {
      found = λ others h. so_far.found others (blank-found blank others h);
      fault = fault-later (blank-fault blank);
      within = so_far.within;
      counted = counted-later;
      start = omega (arith, so_far.start);
    }

    pub after_step : (step : Step) → Some step ≡ step_named count words → StepWithin count step → ReadSoFar count all (steps ++ step ∷ []) (number + 1) after
    after_step step named within =
        let some = some_words count words step named in
        let name : Some step ≡ step_named count (some.0 ∷ some.1) = rw (← some.2) named in
        record {
          found = λ others h. rw append_assoc (so_far.found (step ∷ others) (step-found some.0 some.1 some.2 step name others h));
          fault = fault-later (step-fault some.0 some.1 some.2 step name);
          within = All-push (StepWithin count) steps step so_far.within within;
          counted = counted-later;
          start = omega (arith, so_far.start);
        }

-- ---- the first line of a text is read

module _ (count : ℕ) (text after : List ℕ) (some : 0 < length text) (all : List (List (List ℕ))) (steps : List Step) (number : ℕ)
    (so_far : ReadSoFar count all steps number (word_lines text)) where
  pub blank_passed : EndsLine text after → ReadSoFar count all steps (number + 1) (word_lines after)
  blank_passed line =
      let left = left_of text in
      after_blank count (word_lines text) left.later (word_lines after) left.words (left-line text some) line.later all steps number so_far line.last

  pub step_passed : (step : Step) → NamesLine count text step after → StepWithin count step → ReadSoFar count all (steps ++ step ∷ []) (number + 1) (word_lines after)
  step_passed step line within =
      let left = left_of text in
      after_step count (word_lines text) left.later (word_lines after) left.words (left-line text some) line.later all steps number so_far step line.names within

pub one_line : (text after : List ℕ) → 0 < length text → word_lines after ≡ (left_of text).later → length (word_lines text) ≡ length (word_lines after) + 1
one_line text after some later = omega (arith, ap length (left-line text some), ap length later)

-- the lines after the one that a text begins within
pub lines_after : (count : ℕ) (all : List (List (List ℕ))) (steps : List Step) (number : ℕ) (text after : List ℕ) (line : Left) → left_of text ≡ line
    → after ≡ after_first ends_line text → ReadSoFar count all steps number line.later → ReadSoFar count all steps number (word_lines after)
lines_after count all steps number text after line same follows so_far =
    let lines : word_lines after ≡ line.later = ap word_lines follows ∙ sym (left-later text) ∙ ap (λ (l : Left). l.later) same in
    rw lines so_far
