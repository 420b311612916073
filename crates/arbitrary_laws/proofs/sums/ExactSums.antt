-- Sums, differences and products that wrap, of numbers that were converted or wrapped before: each is that of the
-- numbers themselves, and exact if that is in range. Callers name the set `exact_sums`.
use Rattle.std.specs.Prelude.{◌≡◌, ℕ, ℤ, Bool, ◌≤◌, ◌+ℤ◌, ◌-ℤ◌, ◌*ℤ◌}
use Rattle.std.proofs.Common.{sym, ap, ◌∙◌}
use Rattle.std.proofs.lemmas.Bool.Decides.{Decides-int_eq}
use Rattle.arbitrary_base.specs.Range.{InRange}
use Rattle.arbitrary_base.specs.Residue.{Congruent, wrap}
use Rattle.arbitrary_base.specs.Operation.{wrapped_difference, wrapped_product, wrapped_sum}
use Rattle.arbitrary_base.proofs.modular.Congruence.{Congruent-add, Congruent-narrower, Congruent-refl, Congruent-sub}
use Rattle.arbitrary_base.proofs.modular.Residue.{wrap-congruent, wrap-of_in_range, wrap-same}
use Rattle.arbitrary_base.proofs.operations.Definition.{difference-is, product-is, sum-is}

module _ (s : Bool) (B : ℕ) (x y : ℤ) (some : 1 ≤ B) where
  pub sum-exact : InRange s B (x +ℤ y) → wrapped_sum s B x y ≡ x +ℤ y
  sum-exact f = sum-is s B x y ∙ wrap-of_in_range s B (x +ℤ y) some f

  pub difference-exact : InRange s B (x -ℤ y) → wrapped_difference s B x y ≡ x -ℤ y
  difference-exact f = difference-is s B x y ∙ wrap-of_in_range s B (x -ℤ y) some f

  pub product-exact : InRange s B (x *ℤ y) → wrapped_product s B x y ≡ x *ℤ y
  product-exact f = product-is s B x y ∙ wrap-of_in_range s B (x *ℤ y) some f

  -- ---- of numbers that were converted, from a type of as many bits or more

  module _ (t : Bool) (A : ℕ) (wide : B ≤ A) where
    low : (z : ℤ) → Congruent B (wrap t A z) z
    low z = Congruent-narrower B A _ _ wide (wrap-congruent t A z)

    pub sum-left : wrapped_sum s B (wrap t A x) y ≡ wrapped_sum s B x y
    sum-left = sum-is s B (wrap t A x) y ∙ wrap-same s B _ _ (Congruent-add B _ x y y (low x) (Congruent-refl B y)) ∙ sym (sum-is s B x y)

    pub sum-right : wrapped_sum s B x (wrap t A y) ≡ wrapped_sum s B x y
    sum-right = sum-is s B x (wrap t A y) ∙ wrap-same s B _ _ (Congruent-add B x x _ y (Congruent-refl B x) (low y)) ∙ sym (sum-is s B x y)

    pub difference-left : wrapped_difference s B (wrap t A x) y ≡ wrapped_difference s B x y
    difference-left = difference-is s B (wrap t A x) y ∙ wrap-same s B _ _ (Congruent-sub B _ x y y (low x) (Congruent-refl B y)) ∙ sym (difference-is s B x y)

    pub difference-right : wrapped_difference s B x (wrap t A y) ≡ wrapped_difference s B x y
    difference-right = difference-is s B x (wrap t A y) ∙ wrap-same s B _ _ (Congruent-sub B x x _ y (Congruent-refl B x) (low y)) ∙ sym (difference-is s B x y)

    -- ---- that are converted afterwards

    pub sum-converted : wrap s B (wrapped_sum t A x y) ≡ wrapped_sum s B x y
    sum-converted = ap (wrap s B) (sum-is t A x y) ∙ wrap-same s B _ _ (low (x +ℤ y)) ∙ sym (sum-is s B x y)

    pub difference-converted : wrap s B (wrapped_difference t A x y) ≡ wrapped_difference s B x y
    difference-converted = ap (wrap s B) (difference-is t A x y) ∙ wrap-same s B _ _ (low (x -ℤ y)) ∙ sym (difference-is s B x y)

    pub product-converted : wrap s B (wrapped_product t A x y) ≡ wrapped_product s B x y
    product-converted = ap (wrap s B) (product-is t A x y) ∙ wrap-same s B _ _ (low (x *ℤ y)) ∙ sym (product-is s B x y)

    -- ---- one after another

    module _ (z : ℤ) where
      pub sum-of_sum : wrapped_sum s B (wrapped_sum t A x y) z ≡ wrapped_sum s B (x +ℤ y) z
      sum-of_sum =
          sum-is s B (wrapped_sum t A x y) z
          ∙ ap (λ (n : ℤ). wrap s B (n +ℤ z)) (sum-is t A x y)
          ∙ wrap-same s B _ _ (Congruent-add B _ _ z z (low (x +ℤ y)) (Congruent-refl B z)) ∙ sym (sum-is s B (x +ℤ y) z)

      pub sum-of_difference : wrapped_sum s B (wrapped_difference t A x y) z ≡ wrapped_sum s B (x -ℤ y) z
      sum-of_difference =
          sum-is s B (wrapped_difference t A x y) z
          ∙ ap (λ (n : ℤ). wrap s B (n +ℤ z)) (difference-is t A x y)
          ∙ wrap-same s B _ _ (Congruent-add B _ _ z z (low (x -ℤ y)) (Congruent-refl B z)) ∙ sym (sum-is s B (x -ℤ y) z)

      pub difference-of_sum : wrapped_difference s B (wrapped_sum t A x y) z ≡ wrapped_difference s B (x +ℤ y) z
      difference-of_sum =
          difference-is s B (wrapped_sum t A x y) z
          ∙ ap (λ (n : ℤ). wrap s B (n -ℤ z)) (sum-is t A x y)
          ∙ wrap-same s B _ _ (Congruent-sub B _ _ z z (low (x +ℤ y)) (Congruent-refl B z)) ∙ sym (difference-is s B (x +ℤ y) z)

      pub difference-of_difference : wrapped_difference s B (wrapped_difference t A x y) z ≡ wrapped_difference s B (x -ℤ y) z
      difference-of_difference =
          difference-is s B (wrapped_difference t A x y) z
          ∙ ap (λ (n : ℤ). wrap s B (n -ℤ z)) (difference-is t A x y)
          ∙ wrap-same s B _ _ (Congruent-sub B _ _ z z (low (x -ℤ y)) (Congruent-refl B z)) ∙ sym (difference-is s B (x -ℤ y) z)

pub ruleset exact_sums = (Decides-int_eq, sum-exact, difference-exact, product-exact, sum-left, sum-right, difference-left, difference-right, sum-converted, difference-converted, product-converted, sum-of_sum, sum-of_difference, difference-of_sum, difference-of_difference)
