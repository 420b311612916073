-- `|`, `^` and `& !` as exact sums of `&` and the operands. A law that relates them to sums, differences and the
-- order is then linear arithmetic. Callers name the set `bit_sums`.
use Rattle.std.specs.Prelude.{false, ℕ, ℤ, ◌+ℤ◌, ◌≡◌, ◌≤ℤ◌, ◌≤◌}
use Rattle.std.proofs.Common.{arith, refl}
use Rattle.std.proofs.lemmas.Bool.Decides.{Decides-int_eq}
use Rattle.std.proofs.lemmas.Int.{ints}
use Rattle.arbitrary_base.specs.Operation.{bitwise_or, bitwise_xor}
use Rattle.arbitrary_base.specs.Range.{InRange}
use Rattle.arbitrary_base.proofs.operations.BitsAndSums.{and-in_range}
use Rattle.arbitrary_base.proofs.operations.Bitwise.{bitwise_and-commutes}
use Rattle.arbitrary_laws.proofs.masks.NumberUnderMask.{and-by_complement, or-by_and, xor-by_and}
use Rattle.arbitrary_laws.proofs.orders.Order.{ge-tested, gt-tested, le-tested, lt-tested}

-- at most the sum. Each law's first part says nothing: it shows the search the call
module _ (B : ℕ) (x y : ℤ) (h : 1 ≤ B) (f : InRange false B x) (g : InRange false B y) where
  pub or-at_most_sum : (bitwise_or false B x y ≡ bitwise_or false B x y) × (bitwise_or false B x y ≤ℤ (x +ℤ y))
  or-at_most_sum = let e = or-by_and false B x y h f g in let l = (and-in_range false B x y h).low in (refl, omega (arith, ints))

  pub xor-at_most_sum : (bitwise_xor false B x y ≡ bitwise_xor false B x y) × (bitwise_xor false B x y ≤ℤ (x +ℤ y))
  xor-at_most_sum = let e = xor-by_and false B x y h f g in let l = (and-in_range false B x y h).low in (refl, omega (arith, ints))

pub ruleset bit_sums = (Decides-int_eq, ints, le-tested, lt-tested, ge-tested, gt-tested, or-by_and, xor-by_and, and-by_complement, bitwise_and-commutes)

-- the order of `|`, `^` and the sum
pub ruleset at_most_sums = (or-at_most_sum, xor-at_most_sum)
