-- What one step does, over integers and bit lists, with no storage. Runs.antt has a list of steps.
use Rattle.std.specs.Prelude.{ℕ, ℤ, Bool, pos, ◌+ℤ◌, ◌-ℤ◌, ◌*ℤ◌, ◌%◌, ◌<◌, List, get_or, set, Result, Ok, Err, ok_or, if◌then◌else◌, int_div, nat_lt}
use Rattle.arbitrary_base.specs.Range.{in_range}
use Rattle.std.specs.Bool.{then_some}
use Rattle.std.specs.Int.{int_pow}
use Rattle.std.specs.Ordering.{int_eq}
use Rattle.std.specs.Result.{result_map_both}
use Rattle.arbitrary_base.specs.Residue.{wrap}
use Rattle.arbitrary_base.specs.Saturating.{clamp}
use Rattle.arbitrary_base.specs.Operation.{bitwise_and, bitwise_not, bitwise_or, bitwise_xor, reversed, rotated_left, rotated_right, shifted_left, shifted_right}
use Rattle.arbitrary_int.specs.declared.steps.TwoOp.{TwoOp}
use Rattle.arbitrary_int.specs.declared.steps.TwoOp.TheVariants.{WrappingAdd, WrappingSub, WrappingMul, WrappingDiv, SaturatingAdd, SaturatingSub, SaturatingMul, SaturatingDiv, CheckedAdd, CheckedSub, CheckedMul, CheckedDiv, And, Or, Xor}
use Rattle.arbitrary_int.specs.declared.steps.OneOp.{OneOp}
use Rattle.arbitrary_int.specs.declared.steps.OneOp.TheVariants.{Not, ReverseBits, WrappingNeg}
use Rattle.arbitrary_int.specs.declared.steps.ByOp.{ByOp}
use Rattle.arbitrary_int.specs.declared.steps.ByOp.TheVariants.{WrappingShl, WrappingShr, CheckedShl, CheckedShr, RotateLeft, RotateRight, SaturatingPow}
use Rattle.arbitrary_int.specs.declared.steps.Step.{Step}
use Rattle.arbitrary_int.specs.declared.steps.Step.TheVariants.{Two, One, By}
use Rattle.arbitrary_int.specs.declared.steps.Why.{Why}
use Rattle.arbitrary_int.specs.declared.steps.Why.TheVariants.{Refused, ZeroDivisor}

-- the exact result, which is refused if it is out of range
abbrev pub exact_or_refused : Bool → ℕ → ℤ → Result ℤ Why
exact_or_refused s B x = ok_or (then_some (in_range s B x) x) Refused

-- the result, unless the divisor is zero
abbrev pub unless_zero : ℤ → Why → Result ℤ Why → Result ℤ Why
unless_zero y why result = if int_eq y (pos 0) then Err why else result

-- the result of an operation on the numbers x and y
abbrev pub two_meaning : Bool → ℕ → TwoOp → ℤ → ℤ → Result ℤ Why
two_meaning s B WrappingAdd x y = Ok (wrap s B (x +ℤ y))
two_meaning s B WrappingSub x y = Ok (wrap s B (x -ℤ y))
two_meaning s B WrappingMul x y = Ok (wrap s B (x *ℤ y))
two_meaning s B WrappingDiv x y = unless_zero y ZeroDivisor (Ok (wrap s B (int_div x y)))
two_meaning s B SaturatingAdd x y = Ok (clamp s B (x +ℤ y))
two_meaning s B SaturatingSub x y = Ok (clamp s B (x -ℤ y))
two_meaning s B SaturatingMul x y = Ok (clamp s B (x *ℤ y))
two_meaning s B SaturatingDiv x y = unless_zero y ZeroDivisor (Ok (clamp s B (int_div x y)))
two_meaning s B CheckedAdd x y = exact_or_refused s B (x +ℤ y)
two_meaning s B CheckedSub x y = exact_or_refused s B (x -ℤ y)
two_meaning s B CheckedMul x y = exact_or_refused s B (x *ℤ y)
two_meaning s B CheckedDiv x y = unless_zero y Refused (exact_or_refused s B (int_div x y))
two_meaning s B And x y = Ok (bitwise_and s B x y)
two_meaning s B Or x y = Ok (bitwise_or s B x y)
two_meaning s B Xor x y = Ok (bitwise_xor s B x y)

-- the result of an operation on the number x
abbrev pub one_meaning : Bool → ℕ → OneOp → ℤ → Result ℤ Why
one_meaning s B Not x = Ok (bitwise_not s B x)
one_meaning s B ReverseBits x = Ok (reversed s B x)
one_meaning s B WrappingNeg x = Ok (wrap s B (pos 0 -ℤ x))

-- the result of an operation on the number x and an amount
abbrev pub by_meaning : Bool → ℕ → ByOp → ℤ → ℕ → Result ℤ Why
by_meaning s B WrappingShl x amount = Ok (shifted_left s B x (amount % B))
by_meaning s B WrappingShr x amount = Ok (shifted_right s B x (amount % B))
by_meaning s B CheckedShl x amount = ok_or (then_some (nat_lt amount B) (shifted_left s B x amount)) Refused
by_meaning s B CheckedShr x amount = ok_or (then_some (nat_lt amount B) (shifted_right s B x amount)) Refused
by_meaning s B RotateLeft x amount = Ok (rotated_left s B x (amount % B))
by_meaning s B RotateRight x amount = Ok (rotated_right s B x (amount % B))
by_meaning s B SaturatingPow x amount = Ok (clamp s B (int_pow x amount))

-- the result of the step's operation on its sources
abbrev pub result_of : Bool → ℕ → Step → List ℤ → Result ℤ Why
result_of s B (Two op to left right) regs = two_meaning s B op (get_or regs left (pos 0)) (get_or regs right (pos 0))
result_of s B (One op to src) regs = one_meaning s B op (get_or regs src (pos 0))
result_of s B (By op to src amount) regs = by_meaning s B op (get_or regs src (pos 0)) amount

-- the register that the step writes
abbrev pub target_of : Step → ℕ
target_of (Two op to left right) = to
target_of (One op to src) = to
target_of (By op to src amount) = to

-- the registers after the step, or why it has no result
abbrev pub meaning : Bool → ℕ → Step → List ℤ → Result (List ℤ) Why
meaning s B step regs = result_map_both (set regs (target_of step)) (λ why. why) (result_of s B step regs)

-- the register numbers of the step are below n
abbrev pub StepWithin : ℕ → Step → Type 0
StepWithin n (Two op to left right) = (to < n) × (left < n) × (right < n)
StepWithin n (One op to src) = (to < n) × (src < n)
StepWithin n (By op to src amount) = (to < n) × (src < n)
