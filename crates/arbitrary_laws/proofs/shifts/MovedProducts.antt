-- Left shifts by constant and variable amounts, with products, negation and other left shifts. Callers name the
-- set `moved_products`.
use Rattle.std.specs.Int.{int_shr}
use Rattle.std.specs.Prelude.{Bool, negsuc, pos, ℕ, ℤ, ◌+◌, ◌/◌, ◌^◌, ◌≡◌, ◌≤◌}
use Rattle.std.proofs.Common.{ap, arith, inl, inr, pow-add, sym, ◌∙◌}
use Rattle.std.proofs.Math.Nat.{div-div-eq-div-mul}
use Rattle.std.proofs.lemmas.Bool.{cases_lt}
use Rattle.std.proofs.lemmas.Bool.Decides.{Decides-int_eq}
use Rattle.arbitrary_base.specs.Operation.{shifted_left, shifted_right, wrapped_difference, wrapped_product}
use Rattle.arbitrary_base.specs.Range.{InRange}
use Rattle.arbitrary_base.proofs.bit_lists.SignBit.{InRange-int_shr}
use Rattle.arbitrary_base.proofs.operations.Shift.{shifted_left-difference, shifted_left-is_product, shifted_left-zero, shifted_right-is_shr}
use Rattle.arbitrary_base.proofs.operations.WrappedRing.{wrapped_product-associates, wrapped_product-commutes}
use Rattle.arbitrary_laws.proofs.shifts.ShiftAndBack.{shifted_left-past, shifted_left-twice}
use Rattle.arbitrary_laws.proofs.sums.Ring.{wrapped_product-one}

module _ (s : Bool) (B : ℕ) (x : ℤ) (k : ℕ) (h : 1 ≤ B) (g : k ≤ B) where
  pub shifted_left-negated : shifted_left s B (wrapped_difference s B (pos 0) x) k ≡ wrapped_difference s B (pos 0) (shifted_left s B x k)
  shifted_left-negated = shifted_left-difference s B (pos 0) x k h g ∙ ap (λ (z : ℤ). wrapped_difference s B z (shifted_left s B x k)) (shifted_left-zero s B k h g)

  pub shifted_left-exchanged : (j : ℕ) → j ≤ B → shifted_left s B (shifted_left s B x k) j ≡ shifted_left s B (shifted_left s B x j) k
  shifted_left-exchanged j f = elim (cases_lt B (k + j)) [
    | inl m ↦ shifted_left-past s B x k j h g f (omega (arith, m)) ∙ sym (shifted_left-past s B x j k h f g (omega (arith, m)))
    | inr m ↦ shifted_left-twice s B x k j (omega (arith, m)) ∙ ap (shifted_left s B x) (let e : k + j ≡ j + k = omega arith in e) ∙ sym (shifted_left-twice s B x j k (omega (arith, m)))
  ]

  -- a factor's shift moved out of the product
  pub product-of_shifted : (y : ℤ) → wrapped_product s B y (shifted_left s B x k) ≡ shifted_left s B (wrapped_product s B y x) k
  product-of_shifted y =
      ap (wrapped_product s B y) (shifted_left-is_product s B x k h g) ∙ sym (wrapped_product-associates s B y x (pos (2 ^ k)) h)
      ∙ sym (shifted_left-is_product s B (wrapped_product s B y x) k h g)

  pub product-shifted : (y : ℤ) → wrapped_product s B (shifted_left s B x k) y ≡ shifted_left s B (wrapped_product s B x y) k
  product-shifted y =
      wrapped_product-commutes s B (shifted_left s B x k) y h ∙ product-of_shifted y ∙ ap (λ (z : ℤ). shifted_left s B z k) (wrapped_product-commutes s B y x h)

-- two shifts to the right, in either order
halved : (x : ℤ) (a b : ℕ) → int_shr (int_shr x a) b ≡ int_shr x (a + b)
halved (pos n) a b = ap pos (div-div-eq-div-mul n (2 ^ a) (2 ^ b) ∙ ap (λ (k : ℕ). n / k) (sym (pow-add 2 a b)))
halved (negsuc n) a b = ap negsuc (div-div-eq-div-mul n (2 ^ a) (2 ^ b) ∙ ap (λ (k : ℕ). n / k) (sym (pow-add 2 a b)))

pub shifted_right-exchanged : (s : Bool) (B : ℕ) (x : ℤ) (j k : ℕ) → 1 ≤ B → j ≤ B → k ≤ B → InRange s B x
    → shifted_right s B (shifted_right s B x j) k ≡ shifted_right s B (shifted_right s B x k) j
shifted_right-exchanged s B x j k h p q f =
    twice j k p q ∙ ap (int_shr x) (let e : j + k ≡ k + j = omega arith in e) ∙ sym (twice k j q p)
  where
    twice : (a b : ℕ) → a ≤ B → b ≤ B → shifted_right s B (shifted_right s B x a) b ≡ int_shr x (a + b)
    twice a b g i =
        ap (λ (z : ℤ). shifted_right s B z b) (shifted_right-is_shr s B x a h g f)
        ∙ shifted_right-is_shr s B (int_shr x a) b h i (InRange-int_shr s B a x f) ∙ halved x a b

pub ruleset moved_products = (Decides-int_eq, shifted_left-negated, shifted_left-exchanged, shifted_right-exchanged, product-of_shifted, product-shifted, wrapped_product-one, wrapped_product-commutes)
