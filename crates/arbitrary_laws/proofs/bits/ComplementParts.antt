-- The complements of `^` and `|` in sums and differences, `&` and `& !` as a difference from `|`, and `^` by
-- carries. Callers name the set `complement_parts`.
use Rattle.std.specs.Prelude.{Bool, negsuc, pos, ℕ, ℤ, ◌-ℤ◌, ◌≡◌, ◌≤◌}
use Rattle.std.proofs.Common.{arith, subst, sym}
use Rattle.std.proofs.lemmas.Bool.Decides.{Decides-int_eq}
use Rattle.std.proofs.lemmas.Int.{ints}
use Rattle.arbitrary_base.specs.Operation.{bitwise_and, bitwise_not, bitwise_or, bitwise_xor, wrapped_difference, wrapped_sum}
use Rattle.arbitrary_base.specs.Range.{InRange}
use Rattle.arbitrary_base.specs.Residue.{Congruent}
use Rattle.arbitrary_base.proofs.modular.Congruence.{Congruent-refl, Congruent-trans}
use Rattle.arbitrary_base.proofs.operations.BitsAndSums.{xor-in_range}
use Rattle.arbitrary_base.proofs.operations.Bitwise.{bitwise_and-commutes, bitwise_or-commutes}
use Rattle.arbitrary_base.proofs.operations.Complement.{difference-of_or, not-is_difference}
use Rattle.arbitrary_base.proofs.operations.Definition.{not-in_range}
use Rattle.arbitrary_base.proofs.operations.WrappedRing.{by-congruence, difference-congruent, difference-in_range, sum-congruent, sum-in_range, wrapped_sum-commutes}
use Rattle.arbitrary_laws.proofs.bits.Identities.{bitwise_not-twice}
use Rattle.arbitrary_laws.proofs.masks.NumberUnderMask.{or-by_and, xor-by_and}
use Rattle.arbitrary_laws.proofs.sums.BitsBesideSums.{difference-of_and, sum-twice}
use Rattle.arbitrary_laws.proofs.sums.Carry.{or-is_sum}

not-congruent : (s : Bool) (B : ℕ) (x a : ℤ) → 1 ≤ B → Congruent B x a → Congruent B (bitwise_not s B x) (negsuc 0 -ℤ a)
not-congruent s B x a h c =
    subst (λ (z : ℤ). Congruent B z (negsuc 0 -ℤ a)) (sym (not-is_difference s B x h))
    (Congruent-trans B _ _ _ (difference-congruent s B _ _ _ _ (difference-congruent s B _ _ _ _ (Congruent-refl B (pos 0)) c) (Congruent-refl B (pos 1))) (same B (omega (arith, ints))))
  where
    same : (B : ℕ) {x y : ℤ} → x ≡ y → Congruent B x y
    same B {x = x} {y = y} e = subst (Congruent B x) e (Congruent-refl B x)

module _ (s : Bool) (B : ℕ) (x y : ℤ) (h : 1 ≤ B) (f : InRange s B x) (g : InRange s B y) where
  pub not-of_xor_parts : wrapped_sum s B (bitwise_and s B x y) (bitwise_not s B (bitwise_or s B x y)) ≡ bitwise_not s B (bitwise_xor s B x y)
  not-of_xor_parts =
      let a = or-by_and s B x y h f g in
      let b = xor-by_and s B x y h f g in
      by-congruence s B _ _ _ _ h (sum-in_range s B _ _ h) (not-in_range s B _ h)
      (sum-congruent s B _ _ _ _ (Congruent-refl B _) (not-congruent s B _ _ h (Congruent-refl B _)))
      (not-congruent s B _ _ h (Congruent-refl B _)) (omega (arith, ints))

  pub not-of_xor_less : wrapped_difference s B (wrapped_difference s B (bitwise_and s B x y) (bitwise_or s B x y)) (pos 1) ≡ bitwise_not s B (bitwise_xor s B x y)
  not-of_xor_less =
      let a = or-by_and s B x y h f g in
      let b = xor-by_and s B x y h f g in
      by-congruence s B _ _ _ _ h (difference-in_range s B _ _ h) (not-in_range s B _ h)
      (difference-congruent s B _ _ _ _ (difference-congruent s B _ _ _ _ (Congruent-refl B _) (Congruent-refl B _)) (Congruent-refl B (pos 1)))
      (not-congruent s B _ _ h (Congruent-refl B _)) (omega (arith, ints))

  pub xor-by_carries : wrapped_difference s B (wrapped_sum s B x y) (wrapped_sum s B (bitwise_and s B x y) (bitwise_and s B x y)) ≡ bitwise_xor s B x y
  xor-by_carries =
      let b = xor-by_and s B x y h f g in
      by-congruence s B _ _ _ _ h (difference-in_range s B _ _ h) (xor-in_range s B x y h)
      (difference-congruent s B _ _ _ _ (sum-congruent s B _ _ _ _ (Congruent-refl B x) (Congruent-refl B y)) (sum-congruent s B _ _ _ _ (Congruent-refl B _) (Congruent-refl B _)))
      (Congruent-refl B _) (omega (arith, ints))

pub ruleset complement_parts = (Decides-int_eq, not-of_xor_parts, not-of_xor_less, difference-of_or, difference-of_and, or-is_sum, bitwise_not-twice, bitwise_and-commutes, bitwise_or-commutes, wrapped_sum-commutes)

-- `^` by what is left of a sum without its carries
pub ruleset carried = (Decides-int_eq, xor-by_carries, sum-twice, bitwise_and-commutes)
