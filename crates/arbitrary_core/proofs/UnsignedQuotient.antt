-- A quotient of two numbers of at least 0 is in range.
use Rattle.std.specs.Prelude.{◌≡◌, ℤ, ℕ, Bool, true, false, pos, negsuc, int_div}
use Rattle.std.proofs.Common.{arith, div-le_self}
use Rattle.std.proofs.lemmas.Int.{ints}
use Rattle.arbitrary_base.specs.Range.{InRange}

pub quotient-in_range : (s : Bool) (B : ℕ) (x y : ℤ) → s ≡ false → InRange s B x → InRange s B y → InRange s B (int_div x y)
quotient-in_range false B (pos m) (pos n) e f g =
    let d = div-le_self m n in
    let h = f.high in
    record { low = omega (arith, ints); high = omega (arith, ints) }
quotient-in_range false B (pos m) (negsuc n) e f g = let l = g.low in absurd (omega (arith, ints))
quotient-in_range false B (negsuc m) y e f g = let l = f.low in absurd (omega (arith, ints))
quotient-in_range true B x y e f g = absurd (cc)
