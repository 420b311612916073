-- The lesser and the greater of two numbers as bounds.
use Rattle.std.specs.Prelude.{◌≡◌, ℤ, Bool, true, false, ◌<ℤ◌, ◌≤ℤ◌}
use Rattle.std.specs.Ordering.{int_cmp, is_lt, ord_max, ord_min}
use Rattle.std.specs.Cmp.{int_ranks}
use Rattle.std.proofs.Common.{arith}

pub lesser-at_most : (x y : ℤ) → (ord_min int_cmp x y ≤ℤ x) × (ord_min int_cmp x y ≤ℤ y)
lesser-at_most x y = grind (arith, int_ranks)

pub greater-at_least : (x y : ℤ) → (x ≤ℤ ord_max int_cmp x y) × (y ≤ℤ ord_max int_cmp x y)
greater-at_least x y = grind (arith, int_ranks)

-- ---- what follows from a test of two numbers

pub lesser : (x y : ℤ) (b : Bool) → b ≡ is_lt (int_cmp x y) → b ≡ true → (x <ℤ y) × (x ≤ℤ y)
lesser x y b e t = grind (arith, int_ranks)

pub not-lesser : (x y : ℤ) (b : Bool) → b ≡ is_lt (int_cmp x y) → b ≡ false → y ≤ℤ x
not-lesser x y b e t = grind (arith, int_ranks)

pub same-end : (x : ℤ) → x ≤ℤ x
same-end x = grind arith
