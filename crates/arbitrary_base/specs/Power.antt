-- The laws of powers of integers, as statements. `power_laws` of `power` proves them.
use Rattle.std.specs.Prelude.{◌≡◌, ℕ, ◌+◌, ℤ, ◌*ℤ◌}
use Rattle.std.specs.Int.{int_pow}

-- the product of two powers of one base is the power with the sum of the exponents
abbrev pub PowersOfSums : Type 0
PowersOfSums = (x : ℤ) (m n : ℕ) → int_pow x m *ℤ int_pow x n ≡ int_pow x (m + n)

-- the power of a product is the product of the powers
abbrev pub PowersOfProducts : Type 0
PowersOfProducts = (x y : ℤ) (n : ℕ) → int_pow (x *ℤ y) n ≡ int_pow x n *ℤ int_pow y n
