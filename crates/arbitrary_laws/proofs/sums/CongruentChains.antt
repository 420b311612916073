-- The congruence of several operations that wrap, also products, at any width, known or not. Callers name the set
-- `congruent_chains`.
use Rattle.std.specs.Prelude.{◌≡◌, ℕ, ℤ, Bool, ◌≤◌, ◌+ℤ◌, ◌-ℤ◌, ◌*ℤ◌}
use Rattle.std.proofs.Common.{ap, arith, subst, ◌∙◌}
use Rattle.std.proofs.lemmas.Int.{ints}
use Rattle.arbitrary_base.specs.Residue.{Congruent, wrap}
use Rattle.arbitrary_base.proofs.modular.Congruence.{Congruent-add, Congruent-mul, Congruent-narrower, Congruent-refl, Congruent-sub, Congruent-trans}
use Rattle.arbitrary_base.proofs.modular.Residue.{wrap-congruent, wrap-same}
use Rattle.arbitrary_laws.proofs.numbers.Conversions.{difference-left, difference-right, product-left, product-right, sum-left, sum-right}

-- a sum or a difference on the right, as the steps one after another give it
module _ (s t : Bool) (A B : ℕ) (x y z : ℤ) (wider : A ≤ B) where
  pub sum-with_sum : wrap s A (x +ℤ wrap t B (y +ℤ z)) ≡ wrap s A (x +ℤ y +ℤ z)
  sum-with_sum =
      let e : x +ℤ (y +ℤ z) ≡ x +ℤ y +ℤ z = omega (arith, ints) in
      sum-right s t A B x (y +ℤ z) wider ∙ ap (wrap s A) e

  pub sum-with_difference : wrap s A (x +ℤ wrap t B (y -ℤ z)) ≡ wrap s A (x +ℤ y -ℤ z)
  sum-with_difference =
      let e : x +ℤ (y -ℤ z) ≡ x +ℤ y -ℤ z = omega (arith, ints) in
      sum-right s t A B x (y -ℤ z) wider ∙ ap (wrap s A) e

  pub difference-with_sum : wrap s A (x -ℤ wrap t B (y +ℤ z)) ≡ wrap s A (x -ℤ y -ℤ z)
  difference-with_sum =
      let e : x -ℤ (y +ℤ z) ≡ x -ℤ y -ℤ z = omega (arith, ints) in
      difference-right s t A B x (y +ℤ z) wider ∙ ap (wrap s A) e

  pub difference-with_difference : wrap s A (x -ℤ wrap t B (y -ℤ z)) ≡ wrap s A (x -ℤ y +ℤ z)
  difference-with_difference =
      let e : x -ℤ (y -ℤ z) ≡ x -ℤ y +ℤ z = omega (arith, ints) in
      difference-right s t A B x (y -ℤ z) wider ∙ ap (wrap s A) e

-- for each way to write the exact result
pub wrap-known : (s : Bool) (B : ℕ) (x k : ℤ) → x ≡ k → Congruent B (wrap s B x) k
wrap-known s B x k e = subst (Congruent B (wrap s B x)) e (wrap-congruent s B x)

-- two steps at once: one instance of a law in another counts against the search
module _ (s t u : Bool) (A B C : ℕ) (w x y : ℤ) (wider : A ≤ B) (wide : A ≤ C) where
  first : Congruent A (wrap u C w) w
  first = Congruent-narrower A C _ _ wide (wrap-congruent u C w)

  second : (z k : ℤ) → Congruent A z k → Congruent A (wrap t B z) k
  second z k c = Congruent-trans A _ z k (Congruent-narrower A B _ _ wider (wrap-congruent t B z)) c

  pub sum-after_sum : wrap s A (wrap t B (wrap u C w +ℤ y) +ℤ x) ≡ wrap s A ((w +ℤ y) +ℤ x)
  sum-after_sum = wrap-same s A _ _ (Congruent-add A _ (w +ℤ y) x x (second _ _ (Congruent-add A _ w y y first (Congruent-refl A y))) (Congruent-refl A x))

  pub sum-after_difference : wrap s A (wrap t B (wrap u C w -ℤ y) +ℤ x) ≡ wrap s A ((w -ℤ y) +ℤ x)
  sum-after_difference = wrap-same s A _ _ (Congruent-add A _ (w -ℤ y) x x (second _ _ (Congruent-sub A _ w y y first (Congruent-refl A y))) (Congruent-refl A x))

  pub sum-after_product : wrap s A (wrap t B (wrap u C w *ℤ y) +ℤ x) ≡ wrap s A ((w *ℤ y) +ℤ x)
  sum-after_product = wrap-same s A _ _ (Congruent-add A _ (w *ℤ y) x x (second _ _ (Congruent-mul A _ w y y first (Congruent-refl A y))) (Congruent-refl A x))

  pub difference-after_sum : wrap s A (wrap t B (wrap u C w +ℤ y) -ℤ x) ≡ wrap s A ((w +ℤ y) -ℤ x)
  difference-after_sum = wrap-same s A _ _ (Congruent-sub A _ (w +ℤ y) x x (second _ _ (Congruent-add A _ w y y first (Congruent-refl A y))) (Congruent-refl A x))

  pub difference-after_difference : wrap s A (wrap t B (wrap u C w -ℤ y) -ℤ x) ≡ wrap s A ((w -ℤ y) -ℤ x)
  difference-after_difference = wrap-same s A _ _ (Congruent-sub A _ (w -ℤ y) x x (second _ _ (Congruent-sub A _ w y y first (Congruent-refl A y))) (Congruent-refl A x))

  pub difference-after_product : wrap s A (wrap t B (wrap u C w *ℤ y) -ℤ x) ≡ wrap s A ((w *ℤ y) -ℤ x)
  difference-after_product = wrap-same s A _ _ (Congruent-sub A _ (w *ℤ y) x x (second _ _ (Congruent-mul A _ w y y first (Congruent-refl A y))) (Congruent-refl A x))

  pub product-after_sum : wrap s A (wrap t B (wrap u C w +ℤ y) *ℤ x) ≡ wrap s A ((w +ℤ y) *ℤ x)
  product-after_sum = wrap-same s A _ _ (Congruent-mul A _ (w +ℤ y) x x (second _ _ (Congruent-add A _ w y y first (Congruent-refl A y))) (Congruent-refl A x))

  pub product-after_difference : wrap s A (wrap t B (wrap u C w -ℤ y) *ℤ x) ≡ wrap s A ((w -ℤ y) *ℤ x)
  product-after_difference = wrap-same s A _ _ (Congruent-mul A _ (w -ℤ y) x x (second _ _ (Congruent-sub A _ w y y first (Congruent-refl A y))) (Congruent-refl A x))

  pub product-after_product : wrap s A (wrap t B (wrap u C w *ℤ y) *ℤ x) ≡ wrap s A ((w *ℤ y) *ℤ x)
  product-after_product = wrap-same s A _ _ (Congruent-mul A _ (w *ℤ y) x x (second _ _ (Congruent-mul A _ w y y first (Congruent-refl A y))) (Congruent-refl A x))

pub ruleset congruent_chains = (wrap-known, sum-right, sum-left, difference-right, difference-left, product-right, product-left, sum-with_sum, sum-with_difference, difference-with_sum, difference-with_difference, sum-after_sum, sum-after_difference, sum-after_product, difference-after_sum, difference-after_difference, difference-after_product, product-after_sum, product-after_difference, product-after_product)
