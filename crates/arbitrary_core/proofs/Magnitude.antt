-- A product and its bound by the magnitudes of its factors.
use Rattle.std.specs.Prelude.{◌≡◌, ℤ, ◌*ℤ◌, ◌*◌, ◌≤◌, unsigned_abs}
use Rattle.std.proofs.Common.{ap, le_of_eq, ◌∙◌}
use Rattle.std.proofs.lemmas.Int.{unsigned_abs-mul}

pub bound-of_product : (x y r : ℤ) → r ≡ x *ℤ y → unsigned_abs r ≤ unsigned_abs x * unsigned_abs y
bound-of_product x y r e = le_of_eq (ap unsigned_abs e ∙ unsigned_abs-mul x y)
