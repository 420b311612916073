-- The masks made from the lowest bit that is one, and how they relate: `x & -x`, `x & (x - 1)`, `!x & (x - 1)`,
-- `x ^ (x - 1)`. Callers name the set `lowest_masks`.
use Rattle.std.specs.Prelude.{Bool, pos, ℕ, ℤ, ◌-ℤ◌, ◌≡◌, ◌≤◌}
use Rattle.std.proofs.Common.{ap, arith, subst, sym, ◌∙◌}
use Rattle.std.proofs.lemmas.Bool.Decides.{Decides-int_eq}
use Rattle.std.proofs.lemmas.Int.{ints}
use Rattle.arbitrary_base.specs.Operation.{bitwise_and, bitwise_not, wrapped_difference}
use Rattle.arbitrary_base.specs.Range.{InRange}
use Rattle.arbitrary_base.specs.Residue.{Congruent}
use Rattle.arbitrary_base.proofs.modular.Congruence.{Congruent-refl, Congruent-sub}
use Rattle.arbitrary_base.proofs.operations.BitsAndSums.{and-in_range}
use Rattle.arbitrary_base.proofs.operations.Bitwise.{bitwise_and-commutes}
use Rattle.arbitrary_base.proofs.operations.WrappedRing.{by-congruence, difference-congruent, difference-in_range}
use Rattle.arbitrary_laws.proofs.bits.BitByBit.{and-compared, bit_near-and, bit_near-highest, bit_near-minus_one, bit_near-not, bit_near-or, bit_near-xor, bit_near-zero, compared-and, compared-not, compared-or, compared-xor, not-compared, or-compared, xor-compared}
use Rattle.arbitrary_laws.proofs.bits.Identities.{bitwise_not-twice}
use Rattle.arbitrary_laws.proofs.masks.NumberUnderMask.{and-by_complement}
use Rattle.arbitrary_laws.proofs.sums.BitsBesideSums.{difference-of_and}
use Rattle.arbitrary_laws.proofs.sums.Complements.{not-of_before}

-- so `-x` has the bits that `x - 1` lacks, and the masks are compared bit by bit
pub negated-is_not_before : (s : Bool) (B : ℕ) (x : ℤ) → 1 ≤ B → wrapped_difference s B (pos 0) x ≡ bitwise_not s B (wrapped_difference s B x (pos 1))
negated-is_not_before s B x h = sym (not-of_before s B x h)

-- the lowest bit that is one: removed, and found from the bits below it
module _ (s : Bool) (B : ℕ) (x : ℤ) (h : 1 ≤ B) (f : InRange s B x) where
  pub lowest-taken : wrapped_difference s B x (bitwise_and s B x (wrapped_difference s B (pos 0) x)) ≡ bitwise_and s B x (wrapped_difference s B x (pos 1))
  lowest-taken =
      ap (λ (z : ℤ). wrapped_difference s B x (bitwise_and s B x z)) (negated-is_not_before s B x h) ∙ difference-of_and s B x _ h
      ∙ ap (bitwise_and s B x) (bitwise_not-twice s B _ h (difference-in_range s B x (pos 1) h))

  pub below-lowest : wrapped_difference s B (bitwise_and s B x (wrapped_difference s B (pos 0) x)) (pos 1) ≡ bitwise_and s B (wrapped_difference s B x (pos 1)) (bitwise_not s B x)
  below-lowest =
      let p = wrapped_difference s B x (pos 1) in
      let i = difference-in_range s B x (pos 1) h in
      let a = and-by_complement s B p x h i in
      let b = and-by_complement s B x p h f in
      let c = bitwise_and-commutes s B x p in
      ap (λ (z : ℤ). wrapped_difference s B (bitwise_and s B x z) (pos 1)) (negated-is_not_before s B x h)
      ∙ by-congruence s B _ _ (x -ℤ bitwise_and s B x p -ℤ pos 1) (x -ℤ pos 1 -ℤ bitwise_and s B x p) h (difference-in_range s B _ _ h) (and-in_range s B p _ h)
      (subst (λ (z : ℤ). Congruent B (wrapped_difference s B (bitwise_and s B x (bitwise_not s B p)) (pos 1)) (z -ℤ pos 1)) b
      (difference-congruent s B _ _ _ _ (Congruent-refl B _) (Congruent-refl B (pos 1))))
      (subst (λ (z : ℤ). Congruent B z (x -ℤ pos 1 -ℤ bitwise_and s B x p)) (sym (a ∙ ap (λ (z : ℤ). p -ℤ z) (sym c)))
      (Congruent-sub B _ _ _ _ (difference-congruent s B _ _ _ _ (Congruent-refl B x) (Congruent-refl B (pos 1))) (Congruent-refl B _)))
      (omega (arith, ints))

-- under `&`, `|`, `^` and `!`
pub ruleset lowest_masks = (Decides-int_eq, negated-is_not_before, and-compared, or-compared, xor-compared, not-compared, compared-and, compared-or, compared-xor, compared-not, bit_near-and, bit_near-or, bit_near-xor, bit_near-not, bit_near-zero, bit_near-highest, bit_near-minus_one)

-- with differences
pub ruleset lowest_parts = (Decides-int_eq, lowest-taken, below-lowest, bitwise_and-commutes)
