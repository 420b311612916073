-- Low-bit steps, checked arithmetic, and runs of the same steps at two widths.
use Rattle.std.specs.Prelude.{ℕ, Bool, ◌<◌, ◌≤ℤ◌, List, take, Result, Ok, Err, ⊤}
use Rattle.arbitrary_base.specs.Range.{lo, hi}
use Rattle.arbitrary_int.specs.declared.steps.TwoOp.TheVariants.{WrappingAdd, WrappingSub, WrappingMul, CheckedAdd, CheckedSub, CheckedMul, CheckedDiv, And, Or, Xor}
use Rattle.arbitrary_int.specs.declared.steps.OneOp.TheVariants.{Not, WrappingNeg}
use Rattle.arbitrary_int.specs.declared.steps.ByOp.TheVariants.{WrappingShl}
use Rattle.arbitrary_int.specs.declared.steps.Step.{Step}
use Rattle.arbitrary_int.specs.declared.steps.Step.TheVariants.{Two, One, By}
use Rattle.arbitrary_int.specs.declared.steps.Stop.{Stop}

-- the step is a low-bit step of the width B: the low bits of its result depend only on the low bits of its sources
abbrev pub IsLowBit : ℕ → Step → Type 0
IsLowBit B (Two WrappingAdd to left right) = Unit {0}
IsLowBit B (Two WrappingSub to left right) = Unit {0}
IsLowBit B (Two WrappingMul to left right) = Unit {0}
IsLowBit B (Two And to left right) = Unit {0}
IsLowBit B (Two Or to left right) = Unit {0}
IsLowBit B (Two Xor to left right) = Unit {0}
IsLowBit B (One Not to src) = Unit {0}
IsLowBit B (One WrappingNeg to src) = Unit {0}
IsLowBit B (By WrappingShl to src amount) = amount < B
IsLowBit B step = ⊥

-- the step is a checked sum, difference, product or quotient
abbrev pub IsCheckedArithmetic : Step → Type 0
IsCheckedArithmetic (Two CheckedAdd to left right) = Unit {0}
IsCheckedArithmetic (Two CheckedSub to left right) = Unit {0}
IsCheckedArithmetic (Two CheckedMul to left right) = Unit {0}
IsCheckedArithmetic (Two CheckedDiv to left right) = Unit {0}
IsCheckedArithmetic step = ⊥

-- the steps that a run carried out: all of them, or those before the one that stopped
abbrev pub carried_out : Result ⊤ Stop → List Step → List Step
carried_out (Ok u) steps = steps
carried_out (Err stop) steps = take stop.at steps

-- each number of the type with the sign s and the width A is also one of the type with the sign t and the width B
pub record RangeWithin (s : Bool) (A : ℕ) (t : Bool) (B : ℕ) : Type 0 where
  pub low : lo t B ≤ℤ lo s A
  pub high : hi s A ≤ℤ hi t B
