-- The result of a call whose operands are values of `UInt` or `Int`, by their numbers.
use Rattle.std.specs.Prelude.{◌≡◌, ℤ}
use Rattle.std.proofs.Common.{ap, ap₂, ◌∙◌}

-- the storage's value a has the number x, its value v is what f gives of a, and the result r has the number v
pub of_number : (f : ℤ → ℤ) {x a v r : ℤ} → a ≡ x → v ≡ f a → r ≡ v → r ≡ f x
of_number f d k l = l ∙ k ∙ ap f d

-- the same with a second operand, which is a value too or an amount
pub of_numbers : {A : Type 0} (f : ℤ → A → ℤ) {x a v r : ℤ} {y b : A} → a ≡ x → b ≡ y → v ≡ f a b → r ≡ v → r ≡ f x y
of_numbers f d e k l = l ∙ k ∙ ap₂ f d e
