-- The operations on the numbers of a type, each as one word. The type is its sign s and its width B in bits.
use Rattle.std.specs.Prelude.{ℕ, ℤ, Bool, reverse, ◌+ℤ◌, ◌-ℤ◌, ◌*ℤ◌, ◌++◌, map, not, drop, take}
use Rattle.std.specs.List.{slice_rotate_right}
use Rattle.arbitrary_base.specs.Residue.{wrap}
use Rattle.arbitrary_base.specs.BitList.{bits, val, bits_and, bits_or, bits_xor, shl, shr, fill}

-- ---- arithmetic that wraps

unfoldable pub wrapped_sum : Bool → ℕ → ℤ → ℤ → ℤ
wrapped_sum s B x y = wrap s B (x +ℤ y)

unfoldable pub wrapped_difference : Bool → ℕ → ℤ → ℤ → ℤ
wrapped_difference s B x y = wrap s B (x -ℤ y)

unfoldable pub wrapped_product : Bool → ℕ → ℤ → ℤ → ℤ
wrapped_product s B x y = wrap s B (x *ℤ y)

-- ---- bit by bit

unfoldable pub bitwise_and : Bool → ℕ → ℤ → ℤ → ℤ
bitwise_and s B x y = val s (bits_and (bits B x) (bits B y))

unfoldable pub bitwise_or : Bool → ℕ → ℤ → ℤ → ℤ
bitwise_or s B x y = val s (bits_or (bits B x) (bits B y))

unfoldable pub bitwise_xor : Bool → ℕ → ℤ → ℤ → ℤ
bitwise_xor s B x y = val s (bits_xor (bits B x) (bits B y))

unfoldable pub bitwise_not : Bool → ℕ → ℤ → ℤ
bitwise_not s B x = val s (map not (bits B x))

-- ---- shifts, rotations and reversal

unfoldable pub shifted_left : Bool → ℕ → ℤ → ℕ → ℤ
shifted_left s B x k = val s (shl (bits B x) k)

-- copies of the sign come in for a signed type, and otherwise zeros
unfoldable pub shifted_right : Bool → ℕ → ℤ → ℕ → ℤ
shifted_right s B x k = val s (shr (bits B x) k (fill s (bits B x)))

-- the list has the lowest bit first, so a rotation of the number to the left is one of the list to the right
unfoldable pub rotated_left : Bool → ℕ → ℤ → ℕ → ℤ
rotated_left s B x k = val s (slice_rotate_right (bits B x) k)

unfoldable pub rotated_right : Bool → ℕ → ℤ → ℕ → ℤ
rotated_right s B x k = val s (drop k (bits B x) ++ take k (bits B x))

unfoldable pub reversed : Bool → ℕ → ℤ → ℤ
reversed s B x = val s (reverse (bits B x))
