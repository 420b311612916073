-- Differences of two of `&`, `|` and `^` whose result is negated. Callers name the set `negated_parts`.
use Rattle.std.specs.Prelude.{Bool, pos, ℕ, ℤ, ◌-ℤ◌, ◌≡◌, ◌≤◌}
use Rattle.std.proofs.Common.{arith}
use Rattle.std.proofs.lemmas.Bool.Decides.{Decides-int_eq}
use Rattle.std.proofs.lemmas.Int.{ints}
use Rattle.arbitrary_base.specs.Operation.{bitwise_and, bitwise_not, bitwise_or, bitwise_xor, wrapped_difference}
use Rattle.arbitrary_base.specs.Range.{InRange}
use Rattle.arbitrary_base.proofs.modular.Congruence.{Congruent-refl}
use Rattle.arbitrary_base.proofs.operations.Bitwise.{bitwise_and-commutes}
use Rattle.arbitrary_base.proofs.operations.WrappedRing.{by-congruence, difference-congruent, difference-in_range}
use Rattle.arbitrary_laws.proofs.masks.NumberUnderMask.{and-by_complement, or-by_and, xor-by_and}

module _ (s : Bool) (B : ℕ) (x y : ℤ) (h : 1 ≤ B) (f : InRange s B x) (g : InRange s B y) where
  -- two differences are one number where the exact ones are
  same : (a b c d : ℤ) → a -ℤ b ≡ c -ℤ d → wrapped_difference s B a b ≡ wrapped_difference s B c d
  same a b c d e =
      by-congruence s B _ _ _ _ h (difference-in_range s B a b h) (difference-in_range s B c d h)
      (difference-congruent s B a b a b (Congruent-refl B a) (Congruent-refl B b))
      (difference-congruent s B c d c d (Congruent-refl B c) (Congruent-refl B d)) e

  pub xor-less_or : wrapped_difference s B (bitwise_xor s B x y) (bitwise_or s B x y) ≡ wrapped_difference s B (pos 0) (bitwise_and s B x y)
  xor-less_or = let a = or-by_and s B x y h f g in let b = xor-by_and s B x y h f g in same _ _ _ _ (omega (arith, ints))

  pub and-less_or : wrapped_difference s B (bitwise_and s B x y) (bitwise_or s B x y) ≡ wrapped_difference s B (pos 0) (bitwise_xor s B x y)
  and-less_or = let a = or-by_and s B x y h f g in let b = xor-by_and s B x y h f g in same _ _ _ _ (omega (arith, ints))

  pub left-less_or : wrapped_difference s B x (bitwise_or s B x y) ≡ wrapped_difference s B (pos 0) (bitwise_and s B y (bitwise_not s B x))
  left-less_or =
      let a = or-by_and s B x y h f g in
      let b = and-by_complement s B y x h g in
      let c = bitwise_and-commutes s B x y in
      same _ _ _ _ (omega (arith, ints))

pub ruleset negated_parts = (Decides-int_eq, xor-less_or, and-less_or, left-less_or, bitwise_and-commutes)
