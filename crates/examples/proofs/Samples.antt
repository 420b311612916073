-- A number of 12 bits is one of 32 bits.
use Rattle.std.specs.Prelude.{◌≡◌, ℤ, true}
use Rattle.std.proofs.Common.{arith}
use Rattle.std.proofs.lemmas.Int.{ints}
use Rattle.arbitrary_int.specs.Range.{InRange}
use Rattle.arbitrary_int.specs.Residue.{wrap}
use Rattle.arbitrary_int.proofs.Residue.{wrap-of_in_range}

pub wrap-sample : (x : ℤ) → InRange true 12 x → wrap true 32 x ≡ x
wrap-sample x h = wrap-of_in_range true 32 x (omega arith) (record { low = omega (arith, ints, h); high = omega (arith, ints, h) })

pub ruleset samples = (wrap-sample)
