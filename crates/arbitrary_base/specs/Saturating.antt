-- `clamp`: the number of a type that is nearest to an integer.
use Rattle.std.specs.Prelude.{ℕ, ℤ, Bool, int_lt, if◌then◌else◌}
use Rattle.arbitrary_base.specs.Range.{lo, hi}

-- x if it is in range, and otherwise the nearest end of the range
unfoldable pub clamp : Bool → ℕ → ℤ → ℤ
clamp s B x = if int_lt x (lo s B) then lo s B else if int_lt (hi s B) x then hi s B else x
