-- The sign mask of a number, `x >> (BITS - 1)`, which is -1 for a number below 0 and otherwise 0; and a number
-- under it. Callers name the set `signs`.
use Rattle.std.specs.Prelude.{neg_ℤ, negsuc, pos, true, ℕ, ℤ, ◌+◌, ◌-ℤ◌, ◌-◌, ◌/◌, ◌<ℤ◌, ◌<◌, ◌^◌, ◌≡◌, ◌≤ℤ◌, ◌⊎◌}
use Rattle.std.proofs.Common.{ap, arith, inl, inr, refl, ◌∙◌}
use Rattle.std.proofs.Math.Nat.{div-eq_of_lt-le}
use Rattle.std.proofs.lemmas.Bool.Decides.{Decides-int_eq}
use Rattle.std.proofs.lemmas.Int.{ints}
use Rattle.arbitrary_base.specs.Operation.{bitwise_and, bitwise_or, bitwise_xor, shifted_right}
use Rattle.arbitrary_base.specs.Range.{InRange}
use Rattle.arbitrary_base.proofs.bit_lists.StdBitwise.{not-signed}
use Rattle.arbitrary_base.proofs.operations.Bitwise.{bitwise_and-commutes, bitwise_or-commutes, bitwise_xor-commutes}
use Rattle.arbitrary_base.proofs.operations.Definition.{not-is}
use Rattle.arbitrary_base.proofs.operations.Shift.{shifted_right-is_shr}
use Rattle.arbitrary_laws.proofs.bits.Identities.{bitwise_and-minus_one, bitwise_and-zero, bitwise_or-minus_one, bitwise_or-zero, bitwise_xor-minus_one, bitwise_xor-zero}
use Rattle.arbitrary_laws.proofs.masks.NumberUnderMask.{and-by_complement}

none-left : (n k : ℕ) → n < 2 ^ k → n / 2 ^ k ≡ 0
none-left n k h = div-eq_of_lt-le (2 ^ k) (omega arith) (omega arith)

spread : (B k : ℕ) (x : ℤ) → k + 1 ≡ B → InRange true B x → ((x <ℤ pos 0) × (shifted_right true B x k ≡ negsuc 0)) ⊎ ((pos 0 ≤ℤ x) × (shifted_right true B x k ≡ pos 0))
spread B k (pos n) e f =
    let t = f.high in
    let w : 2 ^ (B - 1) ≡ 2 ^ k = ap (λ (i : ℕ). 2 ^ i) (omega arith) in
    inr (omega (arith, ints), shifted_right-is_shr true B (pos n) k (omega arith) (omega arith) f ∙ ap pos (none-left n k (omega (arith, ints))))
spread B k (negsuc n) e f =
    let l = f.low in
    let w : 2 ^ (B - 1) ≡ 2 ^ k = ap (λ (i : ℕ). 2 ^ i) (omega arith) in
    inl (omega (arith, ints), shifted_right-is_shr true B (negsuc n) k (omega arith) (omega arith) f ∙ ap negsuc (none-left n k (omega (arith, ints))))

-- each law by the sign of x. Its first part says nothing: it shows the search the call
module _ (B k : ℕ) (x : ℤ) (last : k + 1 ≡ B) (f : InRange true B x) where
  pub sign-spread : (shifted_right true B x k ≡ shifted_right true B x k)
      × (((x <ℤ pos 0) × (shifted_right true B x k ≡ negsuc 0)) ⊎ ((pos 0 ≤ℤ x) × (shifted_right true B x k ≡ pos 0)))
  sign-spread = (refl, spread B k x last f)

  module _ (y : ℤ) (g : InRange true B y) where
    pub xor-by_sign : (bitwise_xor true B y (shifted_right true B x k) ≡ bitwise_xor true B y (shifted_right true B x k))
        × (((x <ℤ pos 0) × (bitwise_xor true B y (shifted_right true B x k) ≡ neg_ℤ y -ℤ pos 1))
        ⊎ ((pos 0 ≤ℤ x) × (bitwise_xor true B y (shifted_right true B x k) ≡ y)))
    xor-by_sign = (
      refl,
      elim (spread B k x last f) [
        | inl e ↦ inl (e.0, ap (bitwise_xor true B y) e.1 ∙ bitwise_xor-minus_one B y ∙ not-signed true B y _ refl (omega arith) g (not-is true B y))
        | inr e ↦ inr (e.0, ap (bitwise_xor true B y) e.1 ∙ bitwise_xor-zero true B y (omega arith) g)
      ],
    )

    pub and-by_sign : (bitwise_and true B y (shifted_right true B x k) ≡ bitwise_and true B y (shifted_right true B x k))
        × (((x <ℤ pos 0) × (bitwise_and true B y (shifted_right true B x k) ≡ y)) ⊎ ((pos 0 ≤ℤ x) × (bitwise_and true B y (shifted_right true B x k) ≡ pos 0)))
    and-by_sign = (
      refl,
      elim (spread B k x last f) [
        | inl e ↦ inl (e.0, ap (bitwise_and true B y) e.1 ∙ bitwise_and-minus_one B y (omega arith) g)
        | inr e ↦ inr (e.0, ap (bitwise_and true B y) e.1 ∙ bitwise_and-zero true B y (omega arith))
      ],
    )

    pub or-by_sign : (bitwise_or true B y (shifted_right true B x k) ≡ bitwise_or true B y (shifted_right true B x k))
        × (((x <ℤ pos 0) × (bitwise_or true B y (shifted_right true B x k) ≡ negsuc 0)) ⊎ ((pos 0 ≤ℤ x) × (bitwise_or true B y (shifted_right true B x k) ≡ y)))
    or-by_sign = (
      refl,
      elim (spread B k x last f) [
        | inl e ↦ inl (e.0, ap (bitwise_or true B y) e.1 ∙ bitwise_or-minus_one B y (omega arith))
        | inr e ↦ inr (e.0, ap (bitwise_or true B y) e.1 ∙ bitwise_or-zero true B y (omega arith) g)
      ],
    )

pub ruleset signs = (Decides-int_eq, sign-spread, xor-by_sign, and-by_sign, or-by_sign, and-by_complement, bitwise_xor-commutes, bitwise_and-commutes, bitwise_or-commutes)
