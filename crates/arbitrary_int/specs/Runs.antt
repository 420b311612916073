-- What a list of steps does, over integers and bit lists, with no storage. Steps.antt has one step.
use Rattle.std.specs.Prelude.{ℕ, ℤ, Bool, ◌+◌, List, [], ◌∷◌, Result, Ok, Err, ⊤}
use Rattle.arbitrary_int.specs.Steps.{meaning}
use Rattle.arbitrary_int.specs.declared.steps.Step.{Step}
use Rattle.arbitrary_int.specs.declared.steps.Stop.{Stop}

-- the same ending, with the places counted from one step before
abbrev pub later : List ℤ × Result ⊤ Stop → List ℤ × Result ⊤ Stop
later (regs, Ok u) = (regs, Ok u)
later (regs, Err stop) = (regs, Err (record { at = 1 + stop.at; why = stop.why }))

-- the registers after the steps, up to the first that stops, and how the run ended
abbrev pub RunOf : Bool → ℕ → List Step → List ℤ → List ℤ × Result ⊤ Stop
RunOf s B [] regs = (regs, Ok tt)
RunOf s B (step ∷ steps) regs = elim (meaning s B step regs) [
  | Ok new ↦ later (RunOf s B steps new)
  | Err why ↦ (regs, Err (record { at = 0; why = why }))
]
