-- The residue of a number modulo 2 ^ B.
use Rattle.std.specs.Prelude.{◌≡◌, ℕ, ℤ, Bool, pos, ◌+ℤ◌, ◌-ℤ◌, ◌^◌, unsigned_abs}
use Rattle.std.specs.Int.{int_rem_euclid}
use Rattle.arbitrary_base.specs.Range.{lo}

-- x and y leave the same remainder modulo 2 ^ B
pub record Congruent (B : ℕ) (x y : ℤ) : Type 0 where
  pub remainders : int_rem_euclid x (pos (2 ^ B)) ≡ int_rem_euclid y (pos (2 ^ B))

-- the number from 0 up to 2 ^ B - 1 that is congruent to x
unfoldable pub residue : ℕ → ℤ → ℕ
residue B x = unsigned_abs (int_rem_euclid x (pos (2 ^ B)))

-- the number of the type that is congruent to x
unfoldable pub wrap : Bool → ℕ → ℤ → ℤ
wrap s B x = lo s B +ℤ pos (residue B (x -ℤ lo s B))
