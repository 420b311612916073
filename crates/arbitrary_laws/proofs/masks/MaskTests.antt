-- Two tests by `==` of two numbers that are equal: whether one has no bit outside the other, whether they share
-- none, whether they are equal, and whether neither has a bit, or both have each.
use Rattle.std.specs.Ordering.{int_eq}
use Rattle.std.specs.Prelude.{Bool, false, negsuc, pos, true, ℕ, ℤ, ◌&&◌, ◌-ℤ◌, ◌^◌, ◌≡◌, ◌≤ℤ◌, ◌≤◌}
use Rattle.std.proofs.Common.{ap, ap₂, refl, subst, sym, ◌∙◌}
use Rattle.std.proofs.lemmas.Bool.Decides.{Decides-int_eq, same_from_decides}
use Rattle.arbitrary_base.specs.Operation.{bitwise_and, bitwise_not, bitwise_or, bitwise_xor}
use Rattle.arbitrary_base.specs.Range.{InRange}
use Rattle.arbitrary_base.proofs.operations.BitsAndSums.{and-in_range, xor-in_range}
use Rattle.arbitrary_base.proofs.operations.Bitwise.{bitwise_and-commutes, bitwise_or-commutes, bitwise_xor-commutes}
use Rattle.arbitrary_base.proofs.operations.Definition.{and-is, of-bits, zero-in_range}
use Rattle.arbitrary_base.proofs.operations.OperatorOrder.{and-at_most}
use Rattle.arbitrary_laws.proofs.bits.Identities.{and-absorbs, bitwise_and-highest, bitwise_and-minus_one, bitwise_and-zero, bitwise_or-highest, bitwise_or-minus_one, bitwise_or-zero, bitwise_xor-equal, bitwise_xor-same, bitwise_xor-undoes, bitwise_xor-zero, or-absorbs}
use Rattle.arbitrary_laws.proofs.bits.Parts.{and_not-is_xor, or-is_xor, or-of_parts}

alike : (x y z w : ℤ) → (x ≡ y → z ≡ w) → (z ≡ w → x ≡ y) → int_eq x y ≡ int_eq z w
alike x y z w f g = same_from_decides _ _ (λ t. f ((Decides-int_eq x y).0 t), λ e. (Decides-int_eq x y).1 (g e)) (Decides-int_eq z w)

none : (s : Bool) (B : ℕ) (x z : ℤ) → 1 ≤ B → InRange s B z → bitwise_xor s B x z ≡ x → z ≡ pos 0
none s B x z some g e =
    sym (bitwise_xor-undoes s B z x some g) ∙ ap (λ (w : ℤ). bitwise_xor s B w x) (bitwise_xor-commutes s B z x ∙ e) ∙ bitwise_xor-same s B x some

module _ (s : Bool) (B : ℕ) (x y : ℤ) (some : 1 ≤ B) (f : InRange s B x) where
  pub and_not-none : int_eq (bitwise_and s B x (bitwise_not s B y)) (pos 0) ≡ int_eq (bitwise_and s B x y) x
  and_not-none = alike _ _ _ _
      (λ e. sym (bitwise_or-zero s B (bitwise_and s B x y) some (and-in_range s B x y some)) ∙ ap (bitwise_or s B (bitwise_and s B x y)) (sym e)
      ∙ or-of_parts s B x y some f)
      (λ e. and_not-is_xor s B x y ∙ ap (bitwise_xor s B x) e ∙ bitwise_xor-same s B x some)

within : (B : ℕ) (x y : ℤ) → 1 ≤ B → InRange false B x → InRange false B y → bitwise_and false B x (bitwise_not false B y) ≡ pos 0 → x ≤ℤ y
within B x y some f g e =
    let outside = (Decides-int_eq (bitwise_and false B x (bitwise_not false B y)) (pos 0)).1 e in
    let same : bitwise_and false B x y ≡ x = (Decides-int_eq (bitwise_and false B x y) x).0 (sym (and_not-none false B x y some f) ∙ outside) in
    subst (λ (z : ℤ). z ≤ℤ y) same (and-at_most false B x y _ refl (and-is false B x y) (sym (of-bits false B y some g)))

-- a number with no bit outside another is at most that. The first part says nothing: it shows the search the mask
pub within-at_most : (B : ℕ) (x y : ℤ) → 1 ≤ B → InRange false B x → InRange false B y
    → (bitwise_and false B x (bitwise_not false B y) ≡ bitwise_and false B x (bitwise_not false B y))
    × (bitwise_and false B x (bitwise_not false B y) ≡ pos 0 → x ≤ℤ y)
within-at_most B x y some f g = (refl, within B x y some f g)

module _ (s : Bool) (B : ℕ) (x y : ℤ) (some : 1 ≤ B) where
  or-apart : bitwise_and s B x y ≡ pos 0 → bitwise_or s B x y ≡ bitwise_xor s B x y
  or-apart e = or-is_xor s B x y ∙ ap (bitwise_xor s B (bitwise_xor s B x y)) e ∙ bitwise_xor-zero s B _ some (xor-in_range s B x y some)

  apart : bitwise_or s B x y ≡ bitwise_xor s B x y → bitwise_and s B x y ≡ pos 0
  apart e = none s B (bitwise_xor s B x y) (bitwise_and s B x y) some (and-in_range s B x y some) (sym (or-is_xor s B x y) ∙ e)

  pub or-equal_xor : int_eq (bitwise_or s B x y) (bitwise_xor s B x y) ≡ int_eq (bitwise_and s B x y) (pos 0)
  or-equal_xor = alike _ _ _ _ apart or-apart

  pub xor-equal_or : int_eq (bitwise_xor s B x y) (bitwise_or s B x y) ≡ int_eq (bitwise_and s B x y) (pos 0)
  xor-equal_or = alike _ _ _ _ (λ e. apart (sym e)) (λ e. sym (or-apart e))

module _ (s : Bool) (B : ℕ) (x y : ℤ) (some : 1 ≤ B) (f : InRange s B x) (g : InRange s B y) where
  pub or-unchanged : int_eq (bitwise_or s B x y) y ≡ int_eq (bitwise_and s B x y) x
  or-unchanged = alike _ _ _ _
      (λ e. sym (ap (bitwise_and s B x) e) ∙ and-absorbs s B x y some f)
      (λ e. bitwise_or-commutes s B x y ∙ ap (bitwise_or s B y) (sym e ∙ bitwise_and-commutes s B x y) ∙ or-absorbs s B y x some g)

  pub xor-unchanged : int_eq (bitwise_xor s B x y) x ≡ int_eq y (pos 0)
  xor-unchanged = alike _ _ _ _ (none s B x y some g) (λ e. ap (bitwise_xor s B x) e ∙ bitwise_xor-zero s B x some f)

  pub xor-none : int_eq (bitwise_xor s B x y) (pos 0) ≡ int_eq x y
  xor-none = alike _ _ _ _ (bitwise_xor-equal s B x y some f g) (λ e. ap (bitwise_xor s B x) (sym e) ∙ bitwise_xor-same s B x some)

-- ---- a result that has no bit, or each

unmet : (r : Bool) → (r ≡ true → false ≡ true) → r ≡ false
unmet true n = sym (n refl)
unmet false n = refl

-- a test that holds exactly where two others do
both : (x y z w v u : ℤ) → (x ≡ y → (z ≡ w) × (v ≡ u)) → (z ≡ w → v ≡ u → x ≡ y) → int_eq x y ≡ (int_eq z w && int_eq v u)
both x y z w v u f g = by (int_eq z w) (int_eq v u) (Decides-int_eq z w) (Decides-int_eq v u) (Decides-int_eq x y)
  where
    by : (p q : Bool) → (p ≡ true → z ≡ w) × (z ≡ w → p ≡ true) → (q ≡ true → v ≡ u) × (v ≡ u → q ≡ true)
        → (int_eq x y ≡ true → x ≡ y) × (x ≡ y → int_eq x y ≡ true) → int_eq x y ≡ (p && q)
    by true true d e h = h.1 (g (d.0 refl) (e.0 refl))
    by true false d e h = unmet (int_eq x y) (λ t. e.1 (f (h.0 t)).1)
    by false q d e h = unmet (int_eq x y) (λ t. d.1 (f (h.0 t)).0)

module _ (s : Bool) (B : ℕ) (x y : ℤ) (some : 1 ≤ B) (f : InRange s B x) (g : InRange s B y) where
  pub or-none : int_eq (bitwise_or s B x y) (pos 0) ≡ (int_eq x (pos 0) && int_eq y (pos 0))
  or-none = both _ _ _ _ _ _
      (λ e. (left x y f e, left y x g (bitwise_or-commutes s B y x ∙ e)))
      (λ d e. ap₂ (bitwise_or s B) d e ∙ bitwise_or-zero s B (pos 0) some (zero-in_range s B))
    where
      left : (z w : ℤ) → InRange s B z → bitwise_or s B z w ≡ pos 0 → z ≡ pos 0
      left z w h e = sym (and-absorbs s B z w some h) ∙ ap (bitwise_and s B z) e ∙ bitwise_and-zero s B z some

module _ (B : ℕ) (x y : ℤ) (some : 1 ≤ B) (f : InRange true B x) (g : InRange true B y) where
  pub and-minus_one : int_eq (bitwise_and true B x y) (negsuc 0) ≡ (int_eq x (negsuc 0) && int_eq y (negsuc 0))
  and-minus_one = both _ _ _ _ _ _
      (λ e. (left x y f e, left y x g (bitwise_and-commutes true B y x ∙ e)))
      (λ d e. ap₂ (bitwise_and true B) d e ∙ bitwise_and-minus_one B (negsuc 0) some (subst (InRange true B) d f))
    where
      left : (z w : ℤ) → InRange true B z → bitwise_and true B z w ≡ negsuc 0 → z ≡ negsuc 0
      left z w h e = sym (or-absorbs true B z w some h) ∙ ap (bitwise_or true B z) e ∙ bitwise_or-minus_one B z some

module _ (B : ℕ) (x y z : ℤ) (some : 1 ≤ B) (f : InRange false B x) (g : InRange false B y) (h : z ≡ pos (2 ^ B) -ℤ pos 1) where
  pub and-highest : int_eq (bitwise_and false B x y) z ≡ (int_eq x z && int_eq y z)
  and-highest = both _ _ _ _ _ _
      (λ e. (left x y f e, left y x g (bitwise_and-commutes false B y x ∙ e)))
      (λ d e. ap₂ (bitwise_and false B) d e ∙ bitwise_and-highest B z z some (subst (InRange false B) d f) h)
    where
      left : (v w : ℤ) → InRange false B v → bitwise_and false B v w ≡ z → v ≡ z
      left v w i e =
          sym (or-absorbs false B v w some i) ∙ ap (bitwise_or false B v) e
          ∙ bitwise_or-highest B v z some (subst (InRange false B) e (and-in_range false B v w some)) h
