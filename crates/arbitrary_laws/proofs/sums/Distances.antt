-- The distance of two signed numbers as an unsigned number: the difference wraps, and its bits are read without a
-- sign. Callers name the set `distances`.
use Rattle.std.specs.Prelude.{◌≡◌, ℕ, ℤ, true, false, ◌≤◌, ◌≤ℤ◌, ◌<ℤ◌, ◌-ℤ◌}
use Rattle.std.proofs.Common.{arith, ◌∙◌}
use Rattle.std.proofs.lemmas.Int.{ints}
use Rattle.arbitrary_base.specs.Range.{InRange}
use Rattle.arbitrary_base.specs.Residue.{wrap}
use Rattle.arbitrary_base.specs.Operation.{wrapped_difference}
use Rattle.arbitrary_base.proofs.modular.Congruence.{pow_half}
use Rattle.arbitrary_laws.proofs.sums.ExactSums.{difference-converted, difference-exact}

-- the premises are what a test and the calls state, word for word: bounds on the difference would split the search by signs
module _ (B : ℕ) (x y : ℤ) (some : 1 ≤ B) (f : InRange true B x) (g : InRange true B y) where
  pub apart-at_least : y ≤ℤ x → wrap false B (wrapped_difference true B x y) ≡ x -ℤ y
  apart-at_least l =
      let p = pow_half B some in
      let u = f.high in
      let v = g.low in
      difference-converted false B x y some true B (omega arith) ∙ difference-exact false B x y some (record { low = omega (arith, ints); high = omega (arith, ints) })

  pub apart-above : y <ℤ x → wrap false B (wrapped_difference true B x y) ≡ x -ℤ y
  apart-above l = apart-at_least (omega (arith, ints))

pub ruleset distances = (apart-at_least, apart-above)
