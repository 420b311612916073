-- The zigzag code of a number, which stores the sign in the lowest bit: `((x << 1) ^ (x >> 11)).to_unsigned()` of
-- an `i12`. Callers name the set `zigzag`.
use Rattle.std.specs.Prelude.{false, neg_ℤ, negsuc, pos, true, ℕ, ℤ, ◌*ℤ◌, ◌+◌, ◌-ℤ◌, ◌<ℤ◌, ◌≡◌, ◌≤ℤ◌, ◌⊎◌}
use Rattle.std.proofs.Common.{ap, ap₂, arith, inl, inr, refl, ◌∙◌}
use Rattle.std.proofs.lemmas.Bool.Decides.{Decides-int_eq}
use Rattle.std.proofs.lemmas.Int.{ints}
use Rattle.arbitrary_base.specs.Operation.{bitwise_xor, shifted_left, shifted_right}
use Rattle.arbitrary_base.specs.Range.{InRange}
use Rattle.arbitrary_base.specs.Residue.{Congruent, wrap}
use Rattle.arbitrary_base.proofs.bit_lists.StdBitwise.{not-signed}
use Rattle.arbitrary_base.proofs.modular.Congruence.{Apart-from_congruent, Congruent-from_apart, Congruent-sym, pow_half}
use Rattle.arbitrary_base.proofs.modular.Residue.{wrap-congruent, wrap-in_range, wrap-unique}
use Rattle.arbitrary_base.proofs.operations.Bitwise.{bitwise_xor-commutes}
use Rattle.arbitrary_base.proofs.operations.Definition.{not-is, product-is}
use Rattle.arbitrary_base.proofs.operations.Shift.{shifted_left-is_product}
use Rattle.arbitrary_laws.proofs.bits.Identities.{bitwise_xor-minus_one, bitwise_xor-zero}
use Rattle.arbitrary_laws.proofs.signs.SignWord.{sign-spread}

module _ (B k : ℕ) (last : k + 1 ≡ B) where
  up-in_range : (x : ℤ) → InRange true B x → pos 0 ≤ℤ x → InRange false B (x *ℤ pos 2)
  up-in_range (negsuc n) f h = absurd (omega (arith, ints))
  up-in_range (pos n) f h = let t = f.high in let d = pow_half B (omega arith) in record { low = omega (arith, ints); high = omega (arith, ints) }

  down-in_range : (x : ℤ) → InRange true B x → x <ℤ pos 0 → InRange false B (neg_ℤ (x *ℤ pos 2) -ℤ pos 1)
  down-in_range (pos n) f h = absurd (omega (arith, ints))
  down-in_range (negsuc n) f h = let t = f.low in let d = pow_half B (omega arith) in record { low = omega (arith, ints); high = omega (arith, ints) }

  module _ (x : ℤ) (f : InRange true B x) where
    abbrev twice : ℤ
    twice = wrap true B (x *ℤ pos 2)

    twice-congruent : Congruent B twice (x *ℤ pos 2)
    twice-congruent = wrap-congruent true B (x *ℤ pos 2)

    fits : InRange true B twice
    fits = wrap-in_range true B (x *ℤ pos 2) (omega arith)

    doubled : shifted_left true B x 1 ≡ twice
    doubled = shifted_left-is_product true B x 1 (omega arith) (omega arith) ∙ product-is true B x (pos 2)

    above : pos 0 ≤ℤ x → wrap false B (bitwise_xor true B twice (pos 0)) ≡ x *ℤ pos 2
    above h =
        ap (wrap false B) (bitwise_xor-zero true B twice (omega arith) fits)
        ∙ wrap-unique false B twice (x *ℤ pos 2) (omega arith) (up-in_range x f h) (Congruent-sym B twice (x *ℤ pos 2) twice-congruent)

    below : x <ℤ pos 0 → wrap false B (bitwise_xor true B twice (negsuc 0)) ≡ neg_ℤ (x *ℤ pos 2) -ℤ pos 1
    below h =
        let a = Apart-from_congruent B twice (x *ℤ pos 2) twice-congruent in
        let c : Congruent B (neg_ℤ (x *ℤ pos 2) -ℤ pos 1) (neg_ℤ twice -ℤ pos 1) = Congruent-from_apart B _ _ (a.0, a.1, omega (arith, ints)) in
        ap (wrap false B) (bitwise_xor-minus_one B twice ∙ not-signed true B twice _ refl (omega arith) fits (not-is true B twice))
        ∙ wrap-unique false B (neg_ℤ twice -ℤ pos 1) _ (omega arith) (down-in_range x f h) c

    -- by the sign of x. The first part says nothing: it shows the search the call
    pub coded-by_sign : (wrap false B (bitwise_xor true B (shifted_left true B x 1) (shifted_right true B x k)) ≡ wrap false B (bitwise_xor true B (shifted_left true B x 1) (shifted_right true B x k)))
        × (((x <ℤ pos 0) × (wrap false B (bitwise_xor true B (shifted_left true B x 1) (shifted_right true B x k)) ≡ neg_ℤ (x *ℤ pos 2) -ℤ pos 1))
        ⊎ ((pos 0 ≤ℤ x) × (wrap false B (bitwise_xor true B (shifted_left true B x 1) (shifted_right true B x k)) ≡ x *ℤ pos 2)))
    coded-by_sign = (
      refl,
      elim ((sign-spread B k x last f).1) [
        | inl e ↦ inl (e.0, ap₂ (λ (y z : ℤ). wrap false B (bitwise_xor true B y z)) doubled e.1 ∙ below e.0)
        | inr e ↦ inr (e.0, ap₂ (λ (y z : ℤ). wrap false B (bitwise_xor true B y z)) doubled e.1 ∙ above e.0)
      ],
    )

pub ruleset zigzag = (Decides-int_eq, coded-by_sign, bitwise_xor-commutes)
