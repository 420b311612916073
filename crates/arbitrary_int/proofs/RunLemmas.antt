-- Why a run is right: what the steps that are left do, before and after each step.
use Rattle.std.specs.Prelude.{◌≡◌, ℕ, ℤ, Bool, ◌+◌, ◌<◌, List, [], ◌∷◌, length, get_or, drop, Result, Ok, Err, ⊤}
use Rattle.std.proofs.Common.{arith, refl, ap, sym, ◌∙◌, suc, add-one, ◌≤◌}
use Rattle.std.proofs.Math.Seq.{drop-cons}
use Rattle.std.proofs.Math.ListN.{drop_of_length-le}
use Rattle.arbitrary_int.specs.Steps.{meaning}
use Rattle.arbitrary_int.specs.Runs.{later, RunOf}
use Rattle.arbitrary_int.specs.declared.steps.Step.{Step}
use Rattle.arbitrary_int.specs.declared.steps.Stop.{Stop}
use Rattle.arbitrary_int.specs.declared.steps.Why.{Why}

-- the same ending, with the places counted from k steps before
abbrev pub delayed : ℕ → List ℤ × Result ⊤ Stop → List ℤ × Result ⊤ Stop
delayed k (regs, Ok u) = (regs, Ok u)
delayed k (regs, Err stop) = (regs, Err (record { at = k + stop.at; why = stop.why }))

delayed-zero : (r : List ℤ × Result ⊤ Stop) → delayed 0 r ≡ r
delayed-zero (regs, Ok u) = refl
delayed-zero (regs, Err e) = let z : 0 + e.at ≡ e.at = omega arith in ap (λ (n : ℕ). (regs, Err (record { at = n; why = e.why }))) z

delayed-later : (k : ℕ) (r : List ℤ × Result ⊤ Stop) → delayed k (later r) ≡ delayed (k + 1) r
delayed-later k (regs, Ok u) = refl
delayed-later k (regs, Err e) = let z : k + (1 + e.at) ≡ (k + 1) + e.at = omega arith in ap (λ (n : ℕ). (regs, Err (record { at = n; why = e.why }))) z

pub run-start : (s : Bool) (B : ℕ) (steps : List Step) (regs : List ℤ)
    → RunOf s B steps regs ≡ delayed 0 (RunOf s B (drop 0 steps) regs)
run-start s B steps regs = sym (delayed-zero (RunOf s B steps regs))

pub RunOf-ok : (s : Bool) (B : ℕ) (step : Step) (steps : List Step) (regs new : List ℤ)
    → meaning s B step regs ≡ Ok new → RunOf s B (step ∷ steps) regs ≡ later (RunOf s B steps new)
RunOf-ok s B step steps regs new e = rw (e, RunOf) refl

pub RunOf-err : (s : Bool) (B : ℕ) (step : Step) (steps : List Step) (regs : List ℤ) (why : Why)
    → meaning s B step regs ≡ Err why → RunOf s B (step ∷ steps) regs ≡ (regs, Err (record { at = 0; why = why }))
RunOf-err s B step steps regs why e = rw (e, RunOf) refl

pub run-step : (s : Bool) (B : ℕ) (steps : List Step) (k : ℕ) (step : Step) (regs new : List ℤ) (whole : List ℤ × Result ⊤ Stop)
    → k < length steps → step ≡ get_or steps k step → meaning s B step regs ≡ Ok new
    → whole ≡ delayed k (RunOf s B (drop k steps) regs) → whole ≡ delayed (k + 1) (RunOf s B (drop (k + 1) steps) new)
run-step s B steps k step regs new whole h is e w =
    let d : drop k steps ≡ get_or steps k step ∷ drop (suc k) steps = drop-cons steps k step h in
    let d' : drop k steps ≡ step ∷ drop (k + 1) steps = d ∙ (λ i. (sym is) i ∷ drop ((sym (add-one k)) i) steps) in
    w ∙ ap (λ (l : List Step). delayed k (RunOf s B l regs)) d' ∙ ap (delayed k) (RunOf-ok s B step (drop (k + 1) steps) regs new e)
    ∙ delayed-later k (RunOf s B (drop (k + 1) steps) new)

pub run-stop : (s : Bool) (B : ℕ) (steps : List Step) (k : ℕ) (step : Step) (regs : List ℤ) (why : Why) (whole : List ℤ × Result ⊤ Stop)
    → k < length steps → step ≡ get_or steps k step → meaning s B step regs ≡ Err why
    → whole ≡ delayed k (RunOf s B (drop k steps) regs) → whole ≡ (regs, Err (record { at = k; why = why }))
run-stop s B steps k step regs why whole h is e w =
    let d : drop k steps ≡ step ∷ drop (suc k) steps = drop-cons steps k step h ∙ (λ i. (sym is) i ∷ drop (suc k) steps) in
    let z : k + 0 ≡ k = omega arith in
    w ∙ ap (λ (l : List Step). delayed k (RunOf s B l regs)) d ∙ ap (delayed k) (RunOf-err s B step (drop (suc k) steps) regs why e)
    ∙ ap (λ (n : ℕ). (regs, Err (record { at = n; why = why }))) z

pub run-end : (s : Bool) (B : ℕ) (steps : List Step) (k : ℕ) (regs : List ℤ) (whole : List ℤ × Result ⊤ Stop)
    → length steps ≤ k → whole ≡ delayed k (RunOf s B (drop k steps) regs) → whole ≡ (regs, Ok tt)
run-end s B steps k regs whole h w =
    let d : drop k steps ≡ [] = drop_of_length-le steps h in
    w ∙ ap (λ (l : List Step). delayed k (RunOf s B l regs)) d

pub ruleset runs = (run-start, run-step, run-stop, run-end)
