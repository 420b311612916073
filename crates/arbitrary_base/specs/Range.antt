-- The numbers of a type. A type is its sign s (true if it is signed) and its width B in bits.
use Rattle.std.specs.Prelude.{ℕ, ℤ, Bool, true, false, pos, neg_ℤ, ◌-ℤ◌, ◌≤ℤ◌, ◌-◌, ◌^◌, ◌&&◌, int_le}

-- the least number
abbrev pub lo : Bool → ℕ → ℤ
lo false B = pos 0
lo true B = neg_ℤ (pos (2 ^ (B - 1)))

-- the greatest number
abbrev pub hi : Bool → ℕ → ℤ
hi false B = pos (2 ^ B) -ℤ pos 1
hi true B = pos (2 ^ (B - 1)) -ℤ pos 1

-- x is a number of the type
pub record InRange (s : Bool) (B : ℕ) (x : ℤ) : Type 0 where
  pub low : lo s B ≤ℤ x
  pub high : x ≤ℤ hi s B

-- the same, as a test
unfoldable pub in_range : Bool → ℕ → ℤ → Bool
in_range s B x = int_le (lo s B) x && int_le x (hi s B)

-- an end of the range: the least number if the flag is true, and otherwise the greatest
abbrev pub range_end : Bool → ℕ → Bool → ℤ
range_end s B true = lo s B
range_end s B false = hi s B
