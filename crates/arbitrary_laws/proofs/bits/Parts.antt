-- Numbers that a mask splits and joins, and one of `&`, `|`, `^` in terms of the others. Identities.antt has the
-- algebra of these.
use Rattle.std.specs.Prelude.{◌≡◌, ℕ, ℤ, Bool, ◌≤◌}
use Rattle.std.proofs.Common.{arith}
use Rattle.arbitrary_base.specs.Range.{InRange}
use Rattle.arbitrary_base.specs.Operation.{bitwise_and, bitwise_not, bitwise_or, bitwise_xor}
use Rattle.arbitrary_base.proofs.operations.Definition.{of-bits}
use Rattle.arbitrary_base.proofs.operations.Expression.{apart, both, complement, either, first, same, second, third}

pub or-of_parts : (s : Bool) (B : ℕ) (x y : ℤ) → 1 ≤ B → InRange s B x → bitwise_or s B (bitwise_and s B x y) (bitwise_and s B x (bitwise_not s B y)) ≡ x
or-of_parts s B x y h f =
    same s B x y y (either (both first second) (both first (complement second))) first (λ a b c. grind arith) tt (of-bits s B x h f)

module _ (s : Bool) (B : ℕ) (x y : ℤ) where
  pub and-or_of_not : bitwise_and s B x (bitwise_or s B (bitwise_not s B x) y) ≡ bitwise_and s B x y
  and-or_of_not = same s B x y y (both first (either (complement first) second)) (both first second) (λ a b c. grind arith) tt tt

  pub or-and_of_not : bitwise_or s B x (bitwise_and s B (bitwise_not s B x) y) ≡ bitwise_or s B x y
  or-and_of_not = same s B x y y (either first (both (complement first) second)) (either first second) (λ a b c. grind arith) tt tt

  pub xor-is_or : bitwise_xor s B x y ≡ bitwise_or s B (bitwise_and s B x (bitwise_not s B y)) (bitwise_and s B (bitwise_not s B x) y)
  xor-is_or =
      same s B x y y (apart first second) (either (both first (complement second)) (both (complement first) second)) (λ a b c. grind arith) tt tt

  pub xor-is_and : bitwise_xor s B x y ≡ bitwise_and s B (bitwise_or s B x y) (bitwise_not s B (bitwise_and s B x y))
  xor-is_and = same s B x y y (apart first second) (both (either first second) (complement (both first second))) (λ a b c. grind arith) tt tt

  pub and_not-is_xor : bitwise_and s B x (bitwise_not s B y) ≡ bitwise_xor s B x (bitwise_and s B x y)
  and_not-is_xor = same s B x y y (both first (complement second)) (apart first (both first second)) (λ a b c. grind arith) tt tt

  pub or-is_xor : bitwise_or s B x y ≡ bitwise_xor s B (bitwise_xor s B x y) (bitwise_and s B x y)
  or-is_xor = same s B x y y (either first second) (apart (apart first second) (both first second)) (λ a b c. grind arith) tt tt

-- x where the mask is set, and y elsewhere
pub choice-is_xor : (s : Bool) (B : ℕ) (x y m : ℤ)
    → bitwise_or s B (bitwise_and s B x m) (bitwise_and s B y (bitwise_not s B m)) ≡ bitwise_xor s B y (bitwise_and s B (bitwise_xor s B x y) m)
choice-is_xor s B x y m =
    same s B x y m (either (both first third) (both second (complement third))) (apart second (both (apart first second) third)) (λ a b c. grind arith)
    tt tt

-- the bits that at least two of three numbers have
pub majority-is_xor : (s : Bool) (B : ℕ) (x y z : ℤ)
    → bitwise_or s B (bitwise_or s B (bitwise_and s B x y) (bitwise_and s B x z)) (bitwise_and s B y z)
    ≡ bitwise_xor s B (bitwise_xor s B (bitwise_and s B x y) (bitwise_and s B x z)) (bitwise_and s B y z)
majority-is_xor s B x y z =
    same s B x y z (either (either (both first second) (both first third)) (both second third))
    (apart (apart (both first second) (both first third)) (both second third)) (λ a b c. grind arith) tt tt
