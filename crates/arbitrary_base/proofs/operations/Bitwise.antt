-- The laws of `&`, `|`, `^` and `!` on the numbers of a type that the calls and the laws of generic code use.
use Rattle.std.specs.Prelude.{◌≡◌, ℕ, ℤ, Bool}
use Rattle.std.proofs.Common.{arith}
use Rattle.arbitrary_base.specs.Operation.{bitwise_and, bitwise_or, bitwise_xor, bitwise_not}
use Rattle.arbitrary_base.proofs.operations.Expression.{both, either, apart, complement, first, second, third, same}

module _ (s : Bool) (B : ℕ) (x y : ℤ) where
  pub bitwise_and-commutes : bitwise_and s B x y ≡ bitwise_and s B y x
  bitwise_and-commutes = same s B x y y (both first second) (both second first) (λ a b c. grind arith) tt tt

  pub bitwise_or-commutes : bitwise_or s B x y ≡ bitwise_or s B y x
  bitwise_or-commutes = same s B x y y (either first second) (either second first) (λ a b c. grind arith) tt tt

  pub bitwise_xor-commutes : bitwise_xor s B x y ≡ bitwise_xor s B y x
  bitwise_xor-commutes = same s B x y y (apart first second) (apart second first) (λ a b c. grind arith) tt tt

  pub not-and_parts : bitwise_not s B (bitwise_and s B x y) ≡ bitwise_or s B (bitwise_not s B x) (bitwise_not s B y)
  not-and_parts = same s B x y y (complement (both first second)) (either (complement first) (complement second)) (λ a b c. grind arith) tt tt

  pub not-or_parts : bitwise_not s B (bitwise_or s B x y) ≡ bitwise_and s B (bitwise_not s B x) (bitwise_not s B y)
  not-or_parts = same s B x y y (complement (either first second)) (both (complement first) (complement second)) (λ a b c. grind arith) tt tt

module _ (s : Bool) (B : ℕ) (x y z : ℤ) where
  pub bitwise_or-associates : bitwise_or s B (bitwise_or s B x y) z ≡ bitwise_or s B x (bitwise_or s B y z)
  bitwise_or-associates = same s B x y z (either (either first second) third) (either first (either second third)) (λ a b c. grind arith) tt tt

  pub or-distributes_and : bitwise_or s B x (bitwise_and s B y z) ≡ bitwise_and s B (bitwise_or s B x y) (bitwise_or s B x z)
  or-distributes_and =
      same s B x y z (either first (both second third)) (both (either first second) (either first third)) (λ a b c. grind arith) tt tt
