-- The number of a field of a word.
use Rattle.std.specs.Prelude.{◌≡◌, ℕ, ℤ, pos, ◌+◌, ◌/◌, ◌%◌, ◌^◌, ◌<◌, ◌+ℤ◌, ◌*ℤ◌}

-- the number in `width` bits of the word, from bit `start` on
abbrev pub field : ℕ → ℕ → ℕ → ℤ
field word start width = pos (word / 2 ^ start % 2 ^ width)

-- B bits of x, from bit `start` on, are the number z; the lower bits are `below`, and the higher bits `above`
pub record IsField (start B : ℕ) (x z : ℤ) : Type 0 where
  pub below : ℕ
  pub above : ℤ
  pub short : below < 2 ^ start
  pub made : x ≡ above *ℤ pos (2 ^ (start + B)) +ℤ z *ℤ pos (2 ^ start) +ℤ pos below
