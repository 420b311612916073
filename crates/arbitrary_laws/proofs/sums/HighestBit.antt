-- A sum or a difference with the highest bit toggles that bit and no other, because the carry out of it is lost.
-- Carry.antt has any two numbers.
use Rattle.std.specs.Prelude.{Bool, neg_ℤ, negsuc, pos, unsigned_abs, ℕ, ℤ, ◌*◌, ◌+ℤ◌, ◌-ℤ◌, ◌^◌, ◌≡◌, ◌≤◌}
use Rattle.std.proofs.Common.{ap, arith, refl, sym, ◌∙◌}
use Rattle.std.proofs.lemmas.Int.{ints}
use Rattle.arbitrary_base.specs.Operation.{bitwise_and, bitwise_xor, wrapped_difference, wrapped_sum}
use Rattle.arbitrary_base.specs.Residue.{Congruent}
use Rattle.arbitrary_base.proofs.modular.Congruence.{Congruent-by_times, Congruent-refl, Congruent-trans}
use Rattle.arbitrary_base.proofs.operations.BitsAndSums.{xor-in_range}
use Rattle.arbitrary_base.proofs.operations.Definition.{zero-in_range}
use Rattle.arbitrary_base.proofs.operations.Shift.{shifted_left-and}
use Rattle.arbitrary_base.proofs.operations.WrappedRing.{by-congruence, difference-congruent, difference-in_range, sum-congruent, sum-in_range, wrapped_sum-zero}
use Rattle.arbitrary_laws.proofs.bits.Identities.{bitwise_and-zero}
use Rattle.arbitrary_laws.proofs.sums.BitsBesideSums.{sum-twice}
use Rattle.arbitrary_laws.proofs.sums.Carry.{sum-with_carry}

-- the double of the highest bit, with or without a sign
double : (B : ℕ) (y : ℤ) → unsigned_abs y * 2 ≡ 2 ^ B → Congruent B (y +ℤ y) (pos 0)
double B (pos n) e = Congruent-by_times _ _ _ (pos 1) (omega (arith, ints))
double B (negsuc n) e = Congruent-by_times _ _ _ (neg_ℤ (pos 1)) (omega (arith, ints))

-- so it makes no difference whether it is added or taken away
turned : (B : ℕ) (x y : ℤ) → unsigned_abs y * 2 ≡ 2 ^ B → Congruent B (x -ℤ y) (x +ℤ y)
turned B x (pos n) e = Congruent-by_times _ _ _ (neg_ℤ (pos 1)) (omega (arith, ints))
turned B x (negsuc n) e = Congruent-by_times _ _ _ (pos 1) (omega (arith, ints))

module _ (s : Bool) (B : ℕ) (x y : ℤ) (h : 1 ≤ B) (e : unsigned_abs y * 2 ≡ 2 ^ B) where
  twice : wrapped_sum s B y y ≡ pos 0
  twice =
      by-congruence s B _ _ _ _ h (sum-in_range s B y y h) (zero-in_range s B)
      (Congruent-trans B _ _ _ (sum-congruent s B y y _ _ (Congruent-refl B y) (Congruent-refl B y)) (double B y e))
      (Congruent-refl B (pos 0)) refl

  no_carry : wrapped_sum s B (bitwise_and s B x y) (bitwise_and s B x y) ≡ pos 0
  no_carry =
      sym (sum-twice s B (bitwise_and s B x y) h) ∙ shifted_left-and s B x y 1 h
      ∙ ap (bitwise_and s B _) (sum-twice s B y h ∙ twice) ∙ bitwise_and-zero s B _ h

  pub sum-with_highest : wrapped_sum s B x y ≡ bitwise_xor s B x y
  sum-with_highest =
      sym (sum-with_carry s B x y h) ∙ ap (wrapped_sum s B (bitwise_xor s B x y)) no_carry
      ∙ wrapped_sum-zero s B _ h (xor-in_range s B x y h)

  pub difference-with_highest : wrapped_difference s B x y ≡ bitwise_xor s B x y
  difference-with_highest =
      by-congruence s B _ _ _ _ h (difference-in_range s B x y h) (sum-in_range s B x y h)
      (Congruent-trans B _ _ _ (difference-congruent s B x y _ _ (Congruent-refl B x) (Congruent-refl B y)) (turned B x y e))
      (sum-congruent s B x y _ _ (Congruent-refl B x) (Congruent-refl B y)) refl
      ∙ sum-with_highest
