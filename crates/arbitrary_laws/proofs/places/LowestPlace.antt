-- The lowest set bit of a sum, a difference or a product, from the lowest set bits of its operands. Callers name
-- the set `lowest_place`.
use Rattle.std.specs.Int.{int_rem_euclid}
use Rattle.std.specs.Prelude.{Bool, negsuc, pos, suc, unsigned_abs, zero, ℕ, ℤ, ◌%◌, ◌*ℤ◌, ◌+ℤ◌, ◌-ℤ◌, ◌/◌, ◌≡◌, ◌≤◌, ◌⊎◌}
use Rattle.std.proofs.Common.{ap, arith, inl, inr, refl, subst, sym, ◌∙◌}
use Rattle.std.proofs.lemmas.Bool.Decides.{Decides-int_eq}
use Rattle.std.proofs.lemmas.Int.{ints}
use Rattle.arbitrary_base.specs.Operation.{bitwise_and, bitwise_xor, wrapped_difference, wrapped_product, wrapped_sum}
use Rattle.arbitrary_base.specs.Range.{InRange}
use Rattle.arbitrary_base.specs.Residue.{Congruent}
use Rattle.arbitrary_base.proofs.modular.Congruence.{Congruent-by_times, Congruent-mul, Congruent-narrower, Congruent-refl, Congruent-trans}
use Rattle.arbitrary_base.proofs.operations.Bitwise.{bitwise_and-commutes, bitwise_xor-commutes}
use Rattle.arbitrary_base.proofs.operations.WrappedRing.{difference-congruent, product-congruent, sum-congruent}
use Rattle.arbitrary_laws.proofs.bits.Identities.{and-distributes_or, and-distributes_xor, bitwise_and-associates, bitwise_and-zero, bitwise_xor-zero}
use Rattle.arbitrary_laws.proofs.masks.NumberUnderMask.{xor-by_and}
use Rattle.arbitrary_laws.proofs.places.BitPlaces.{low-is_remainder}

parity : (x y : ℤ) → Congruent 1 x y → unsigned_abs x % 2 ≡ unsigned_abs y % 2
parity x y c = let e : int_rem_euclid x (pos 2) ≡ int_rem_euclid y (pos 2) = c.remainders in grind (arith, ints)

module _ (s : Bool) (B : ℕ) (x y : ℤ) (two : 2 ≤ B) where
  same : (z w : ℤ) → Congruent 1 z w → bitwise_and s B z (pos 1) ≡ bitwise_and s B w (pos 1)
  same z w c = low-is_remainder s B z two ∙ ap pos (parity z w c) ∙ sym (low-is_remainder s B w two)

  module _ (f : InRange s B x) (g : InRange s B y) where
    xor-parity : Congruent 1 (x +ℤ y) (bitwise_xor s B x y)
    xor-parity = let e = xor-by_and s B x y (omega arith) f g in Congruent-by_times _ _ _ (bitwise_and s B x y) (omega (arith, ints))

    xor-parity_less : Congruent 1 (x -ℤ y) (bitwise_xor s B x y)
    xor-parity_less = let e = xor-by_and s B x y (omega arith) f g in Congruent-by_times _ _ _ (bitwise_and s B x y -ℤ y) (omega (arith, ints))

    pub low-of_sum : bitwise_and s B (wrapped_sum s B x y) (pos 1) ≡ bitwise_and s B (bitwise_xor s B x y) (pos 1)
    low-of_sum =
        same _ _ (Congruent-trans 1 _ (x +ℤ y) _ (Congruent-narrower 1 B _ _ (omega arith) (sum-congruent s B x y x y (Congruent-refl B x) (Congruent-refl B y))) xor-parity)

    pub low-of_difference : bitwise_and s B (wrapped_difference s B x y) (pos 1) ≡ bitwise_and s B (bitwise_xor s B x y) (pos 1)
    low-of_difference =
        same _ _ (Congruent-trans 1 _ (x -ℤ y) _ (Congruent-narrower 1 B _ _ (omega arith) (difference-congruent s B x y x y (Congruent-refl B x) (Congruent-refl B y))) xor-parity_less)

  -- the lowest bit of y is 0 or 1, and y is congruent to it
  lowest : ((bitwise_and s B y (pos 1) ≡ pos 0) × Congruent 1 y (pos 0)) ⊎ ((bitwise_and s B y (pos 1) ≡ pos 1) × Congruent 1 y (pos 1))
  lowest = by-rest (unsigned_abs y % 2) refl (low-is_remainder s B y two)
    where
      even : (q : ℕ) (z : ℤ) → q ≡ unsigned_abs z / 2 → 0 ≡ unsigned_abs z % 2 → Congruent 1 z (pos 0)
      even q (pos m) e d = Congruent-by_times _ _ _ (pos q) (omega (arith, ints))
      even q (negsuc m) e d = Congruent-by_times _ _ _ (pos 0 -ℤ pos q) (omega (arith, ints))

      odd : (q : ℕ) (z : ℤ) → q ≡ unsigned_abs z / 2 → 1 ≡ unsigned_abs z % 2 → Congruent 1 z (pos 1)
      odd q (pos m) e d = Congruent-by_times _ _ _ (pos q) (omega (arith, ints))
      odd q (negsuc m) e d = Congruent-by_times _ _ _ (pos 0 -ℤ pos q -ℤ pos 1) (omega (arith, ints))

      by-rest : (r : ℕ) → r ≡ unsigned_abs y % 2 → bitwise_and s B y (pos 1) ≡ pos r
          → ((bitwise_and s B y (pos 1) ≡ pos 0) × Congruent 1 y (pos 0)) ⊎ ((bitwise_and s B y (pos 1) ≡ pos 1) × Congruent 1 y (pos 1))
      by-rest zero e w = inl (w, even _ y refl e)
      by-rest (suc zero) e w = inr (w, odd _ y refl e)
      by-rest (suc (suc r)) e w = absurd (omega arith)

  pub low-of_product : InRange s B x → bitwise_and s B (wrapped_product s B x y) (pos 1) ≡ bitwise_and s B (bitwise_and s B x y) (pos 1)
  low-of_product f = elim lowest [
    | inl e ↦
        same _ (pos 0) (wrapped (x *ℤ pos 0) (pos 0) (product (pos 0) e.1) (omega (arith, ints)))
        ∙ zero-masked ∙ sym (bitwise_and-associates s B x y (pos 1) ∙ ap (bitwise_and s B x) e.0 ∙ bitwise_and-zero s B x (omega arith))
    | inr e ↦
        same _ x (wrapped (x *ℤ pos 1) x (product (pos 1) e.1) (omega (arith, ints)))
        ∙ sym (bitwise_and-associates s B x y (pos 1) ∙ ap (bitwise_and s B x) e.0)
  ]
    where
      zero-masked : bitwise_and s B (pos 0) (pos 1) ≡ pos 0
      zero-masked = bitwise_and-commutes s B (pos 0) (pos 1) ∙ bitwise_and-zero s B (pos 1) (omega arith)

      product : (z : ℤ) → Congruent 1 y z → Congruent 1 (x *ℤ y) (x *ℤ z)
      product z c = Congruent-mul 1 x x y z (Congruent-refl 1 x) c

      wrapped : (z w : ℤ) → Congruent 1 (x *ℤ y) z → z ≡ w → Congruent 1 (wrapped_product s B x y) w
      wrapped z w c e =
          Congruent-trans 1 _ (x *ℤ y) _ (Congruent-narrower 1 B _ _ (omega arith) (product-congruent s B x y x y (Congruent-refl B x) (Congruent-refl B y)))
          (subst (Congruent 1 (x *ℤ y)) e c)

pub ruleset lowest_place = (Decides-int_eq, low-of_sum, low-of_difference, low-of_product, and-distributes_xor, and-distributes_or, bitwise_and-associates, bitwise_and-commutes, bitwise_xor-commutes, bitwise_xor-zero, bitwise_and-zero)
