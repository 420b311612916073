-- A number under a mask that is -1 or 0, such as a sign mask `x >> (BITS - 1)`, its complement or a chosen number:
-- the absolute value, the lesser and the greater of two. `SignWord` has the sign mask alone. Callers name the set
-- `sign_masks`.
use Rattle.std.specs.Prelude.{neg_ℤ, negsuc, pos, true, ℕ, ℤ, ◌+ℤ◌, ◌+◌, ◌-ℤ◌, ◌<ℤ◌, ◌^◌, ◌≡◌, ◌≤ℤ◌, ◌≤◌, ◌⊎◌}
use Rattle.std.proofs.Common.{ap, arith, inl, inr, refl, subst, sym, ◌∙◌}
use Rattle.std.proofs.lemmas.Bool.Decides.{Decides-int_eq}
use Rattle.std.proofs.lemmas.Int.{ints}
use Rattle.arbitrary_base.specs.Operation.{bitwise_and, bitwise_or, bitwise_xor, shifted_left, shifted_right, wrapped_difference, wrapped_sum}
use Rattle.arbitrary_base.specs.Range.{InRange}
use Rattle.arbitrary_base.specs.Residue.{Congruent}
use Rattle.arbitrary_base.proofs.bit_lists.StdBitwise.{not-signed}
use Rattle.arbitrary_base.proofs.modular.Congruence.{Congruent-refl, Congruent-sub}
use Rattle.arbitrary_base.proofs.operations.BitsAndSums.{xor-in_range}
use Rattle.arbitrary_base.proofs.operations.Bitwise.{bitwise_and-commutes, bitwise_or-commutes, bitwise_xor-commutes}
use Rattle.arbitrary_base.proofs.operations.Definition.{not-is}
use Rattle.arbitrary_base.proofs.operations.Shift.{shifted_left-is_product}
use Rattle.arbitrary_base.proofs.operations.WrappedRing.{by-congruence, difference-congruent, difference-in_range, difference-twice, product-in_range, sum-congruent, sum-in_range, wrapped_difference-self}
use Rattle.arbitrary_laws.proofs.bits.Identities.{bitwise_and-minus_one, bitwise_and-zero, bitwise_or-minus_one, bitwise_or-zero, bitwise_xor-minus_one, bitwise_xor-undoes, bitwise_xor-zero}
use Rattle.arbitrary_laws.proofs.signs.SignWord.{sign-spread}
use Rattle.arbitrary_laws.proofs.sums.Ring.{wrapped_difference-zero, wrapped_product-two}

-- ---- a mask of ones and one of zeros

module _ (B : ℕ) (x y : ℤ) (h : 1 ≤ B) (f : InRange true B x) where
  pub and-with_all : y ≡ negsuc 0 → bitwise_and true B x y ≡ x
  and-with_all e = ap (bitwise_and true B x) e ∙ bitwise_and-minus_one B x h f

  pub and-with_none : y ≡ pos 0 → bitwise_and true B x y ≡ pos 0
  and-with_none e = ap (bitwise_and true B x) e ∙ bitwise_and-zero true B x h

  pub or-with_all : y ≡ negsuc 0 → bitwise_or true B x y ≡ negsuc 0
  or-with_all e = ap (bitwise_or true B x) e ∙ bitwise_or-minus_one B x h

  pub or-with_none : y ≡ pos 0 → bitwise_or true B x y ≡ x
  or-with_none e = ap (bitwise_or true B x) e ∙ bitwise_or-zero true B x h f

  pub xor-with_all : y ≡ negsuc 0 → bitwise_xor true B x y ≡ neg_ℤ x -ℤ pos 1
  xor-with_all e = ap (bitwise_xor true B x) e ∙ bitwise_xor-minus_one B x ∙ not-signed true B x _ refl h f (not-is true B x)

  pub xor-with_none : y ≡ pos 0 → bitwise_xor true B x y ≡ x
  xor-with_none e = ap (bitwise_xor true B x) e ∙ bitwise_xor-zero true B x h f

-- ---- the negated number and the mask, because a wrapped result is not the negated number

module _ (B : ℕ) (x y : ℤ) (h : 1 ≤ B) where
  -- x - 1, turned over
  pub xor-of_sum : y ≡ negsuc 0 → bitwise_xor true B (wrapped_sum true B x y) y ≡ wrapped_difference true B (pos 0) x
  xor-of_sum e =
      let i = sum-in_range true B x y h in
      let n = xor-with_all B (wrapped_sum true B x y) y h i e in
      let c = sum-congruent true B x y x y (Congruent-refl B x) (Congruent-refl B y) in
      by-congruence true B _ _ ((pos 0 -ℤ pos 1) -ℤ (x +ℤ y)) (pos 0 -ℤ x) h (xor-in_range true B (wrapped_sum true B x y) y h) (difference-in_range true B (pos 0) x h)
      (subst (λ (z : ℤ). Congruent B z ((pos 0 -ℤ pos 1) -ℤ (x +ℤ y))) (let d : (pos 0 -ℤ pos 1) -ℤ wrapped_sum true B x y ≡ bitwise_xor true B (wrapped_sum true B x y) y = omega (arith, ints) in d)
      (Congruent-sub B (pos 0 -ℤ pos 1) (pos 0 -ℤ pos 1) (wrapped_sum true B x y) (x +ℤ y) (Congruent-refl B _) c))
      (difference-congruent true B (pos 0) x (pos 0) x (Congruent-refl B (pos 0)) (Congruent-refl B x)) (omega (arith, ints))

  -- x turned over, plus 1
  pub difference-of_xor : InRange true B x → y ≡ negsuc 0 → wrapped_difference true B (bitwise_xor true B x y) y ≡ wrapped_difference true B (pos 0) x
  difference-of_xor f e =
      let n = xor-with_all B x y h f e in
      by-congruence true B _ _ (bitwise_xor true B x y -ℤ y) (pos 0 -ℤ x) h (difference-in_range true B (bitwise_xor true B x y) y h) (difference-in_range true B (pos 0) x h)
      (difference-congruent true B (bitwise_xor true B x y) y (bitwise_xor true B x y) y (Congruent-refl B _) (Congruent-refl B y))
      (difference-congruent true B (pos 0) x (pos 0) x (Congruent-refl B (pos 0)) (Congruent-refl B x)) (omega (arith, ints))

difference-of_double : (B : ℕ) (x : ℤ) → 1 ≤ B → InRange true B x → wrapped_difference true B x (shifted_left true B x 1) ≡ wrapped_difference true B (pos 0) x
difference-of_double B x h f =
    ap (wrapped_difference true B x) (shifted_left-is_product true B x 1 h h ∙ wrapped_product-two true B x h)
    ∙ sym (difference-twice true B x x x h) ∙ ap (λ (z : ℤ). wrapped_difference true B z x) (wrapped_difference-self true B x h)

left-in_range : (B k : ℕ) (x : ℤ) → 1 ≤ B → k ≤ B → (shifted_left true B x k ≡ shifted_left true B x k) × InRange true B (shifted_left true B x k)
left-in_range B k x h g = (refl, subst (λ (z : ℤ). InRange true B z) (sym (shifted_left-is_product true B x k h g)) (product-in_range true B x (pos (2 ^ k)) h))

-- x less its double where it is below 0
pub absolute-by_double : (B k : ℕ) (x : ℤ) → 1 ≤ B → k + 1 ≡ B → InRange true B x
    → let w = wrapped_difference true B x (bitwise_and true B (shifted_left true B x 1) (shifted_right true B x k)) in
    (w ≡ w) × (((x <ℤ pos 0) × (w ≡ wrapped_difference true B (pos 0) x)) ⊎ ((pos 0 ≤ℤ x) × (w ≡ x)))
absolute-by_double B k x h e f =
    let i = (left-in_range B 1 x h h).1 in (
      refl,
      elim (sign-spread B k x e f).1 [
        | inl s ↦ inl (s.0, ap (wrapped_difference true B x) (and-with_all B (shifted_left true B x 1) (shifted_right true B x k) h i s.1) ∙ difference-of_double B x h f)
        | inr s ↦ inr (s.0, ap (wrapped_difference true B x) (and-with_none B (shifted_left true B x 1) (shifted_right true B x k) h i s.1) ∙ wrapped_difference-zero true B x h f)
      ],
    )

-- numbers under a mask that is -1 or 0
pub ruleset sign_masks = (Decides-int_eq, sign-spread, and-with_all, and-with_none, or-with_all, or-with_none, xor-with_all, xor-with_none, xor-of_sum, difference-of_xor, absolute-by_double, bitwise_xor-undoes, bitwise_xor-commutes, bitwise_and-commutes, bitwise_or-commutes)
