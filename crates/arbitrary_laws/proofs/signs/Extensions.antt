-- `&`, `|`, `^` and right shifts of numbers that fit in a narrower type of the same sign: they have the same
-- result there, and so have a signed primitive's own operators. Callers name the set `extensions`.
use Rattle.std.specs.Int.{Width, cast_unsigned, int_shr, w128, w16, w32, w64, w8}
use Rattle.std.specs.Int.Bits.{and_lt, bit_and, bit_or, bit_xor}
use Rattle.std.specs.Prelude.{Bool, FitsSigned, false, negsuc, pos, suc, true, zero, ℕ, ℤ, ◌*ℤ◌, ◌+ℤ◌, ◌-◌, ◌/◌, ◌<ℤ◌, ◌<◌, ◌^◌, ◌≡◌, ◌≤ℤ◌, ◌≤◌, ◌⊎◌}
use Rattle.std.proofs.Common.{ap, ap₂, arith, inl, inr, refl, subst, sym, ◌∙◌}
use Rattle.std.proofs.Math.Nat.{div-eq_of_lt-le}
use Rattle.std.proofs.lemmas.Bool.Decides.{Decides-int_eq}
use Rattle.std.proofs.lemmas.Int.{ints, of_z-to_z}
use Rattle.std.proofs.lemmas.Nat.{or_lt, pow_pos, xor_lt}
use Rattle.arbitrary_base.specs.Operation.{bitwise_and, bitwise_or, bitwise_xor}
use Rattle.arbitrary_base.specs.Range.{InRange}
use Rattle.arbitrary_base.proofs.bit_lists.StdBitwise.{and-left}
use Rattle.arbitrary_base.proofs.modular.Residue.{residue-lt, wrap-of_in_range}
use Rattle.arbitrary_base.proofs.modular.Truncation.{InRange-wider}
use Rattle.arbitrary_base.proofs.operations.BitsAndSums.{and-in_range}
use Rattle.arbitrary_base.proofs.operations.Bitwise.{bitwise_and-commutes}
use Rattle.arbitrary_base.proofs.operations.Definition.{and-is, or-is, xor-is}
use Rattle.arbitrary_base.proofs.operations.Shift.{shifted_right-and, shifted_right-is_shr}
use Rattle.arbitrary_base.proofs.operations.ShiftAsProduct.{int_shr-high, int_shr-low}
use Rattle.arbitrary_base.proofs.storages.Primitive.{bits_some, cast_unsigned-residue, signed-in_range}
use Rattle.arbitrary_base.proofs.storages.PrimitiveBits.{bitand-signed, bitor-signed, bitxor-signed}
use Rattle.arbitrary_laws.proofs.bits.Identities.{bitwise_and-minus_one, bitwise_and-zero}
use Rattle.arbitrary_laws.proofs.masks.NumberUnderMask.{or-by_and, xor-by_and}
use Rattle.arbitrary_laws.proofs.shifts.Truncations.{and-truncated}
use mir.Val.{bits as width}

-- ---- the range of `&`

-- what a number with a sign leaves that is shifted right by all places but the sign's: 0 or -1
sign-left : (k : ℕ) (x : ℤ) → InRange true (suc k) x → (int_shr x k ≡ pos 0) ⊎ (int_shr x k ≡ negsuc 0)
sign-left k (pos n) f =
    let h = f.high in
    let w : 2 ^ (suc k - 1) ≡ 2 ^ k = ap (λ (i : ℕ). 2 ^ i) (omega arith) in
    inl (ap pos (let q : n / 2 ^ k ≡ 0 = div-eq_of_lt-le (2 ^ k) (omega arith) (omega (arith, ints)) in q))
sign-left k (negsuc n) f =
    let l = f.low in
    let w : 2 ^ (suc k - 1) ≡ 2 ^ k = ap (λ (i : ℕ). 2 ^ i) (omega arith) in
    inr (ap negsuc (let q : n / 2 ^ k ≡ 0 = div-eq_of_lt-le (2 ^ k) (omega arith) (omega (arith, ints)) in q))

-- and a number is in range where it leaves that
by-sign_left : (k : ℕ) (x q : ℤ) → int_shr x k ≡ q → (q ≡ pos 0) ⊎ (q ≡ negsuc 0) → InRange true (suc k) x
by-sign_left k x q e d =
    let w : 2 ^ (suc k - 1) ≡ 2 ^ k = ap (λ (i : ℕ). 2 ^ i) (omega arith) in
    let l = int_shr-low k x in
    let h = int_shr-high k x in
    elim d [
      | inl z ↦
          let m = subst (λ (r : ℤ). (r *ℤ pos (2 ^ k)) ≤ℤ x) (e ∙ z) l in
          let n = subst (λ (r : ℤ). x <ℤ (r *ℤ pos (2 ^ k) +ℤ pos (2 ^ k))) (e ∙ z) h in
          record { low = omega (arith, ints, m); high = omega (arith, ints, n) }
      | inr z ↦
          let m = subst (λ (r : ℤ). (r *ℤ pos (2 ^ k)) ≤ℤ x) (e ∙ z) l in
          let n = subst (λ (r : ℤ). x <ℤ (r *ℤ pos (2 ^ k) +ℤ pos (2 ^ k))) (e ∙ z) h in
          record { low = omega (arith, ints, m); high = omega (arith, ints, n) }
    ]

alike : (B : ℕ) (a b : ℤ) → 1 ≤ B → (a ≡ pos 0) ⊎ (a ≡ negsuc 0) → (b ≡ pos 0) ⊎ (b ≡ negsuc 0)
    → (bitwise_and true B a b ≡ pos 0) ⊎ (bitwise_and true B a b ≡ negsuc 0)
alike B a b h d (inl e) = inl (ap (bitwise_and true B a) e ∙ bitwise_and-zero true B a h)
alike B a b h (inl d) (inr e) = inl (bitwise_and-commutes true B a b ∙ ap (bitwise_and true B b) d ∙ bitwise_and-zero true B b h)
alike B a b h (inr d) (inr e) =
    let p = pow_pos (B - 1) in
    let r : InRange true B a = subst (InRange true B) (sym d) (record { low = omega (arith, ints); high = omega (arith, ints) }) in
    inr (ap (bitwise_and true B a) e ∙ bitwise_and-minus_one B a h r ∙ d)

module _ (s : Bool) (A B : ℕ) (x y : ℤ) (h : 1 ≤ A) (g : A ≤ B) (p : InRange s A x) (q : InRange s A y) where
  and-narrow : InRange s A (bitwise_and s B x y)
  and-narrow = by-sign s A h g p q
    where
      by-sign : (s : Bool) (A : ℕ) → 1 ≤ A → A ≤ B → InRange s A x → InRange s A y → InRange s A (bitwise_and s B x y)
      by-sign false A h g p q =
          let m = and-left false B x y _ (omega arith) (InRange-wider false A B x h g p) (and-is false B x y) p.low in
          let t = p.high in
          record { low = m.0; high = omega (arith, ints, m.1) }
      by-sign true zero h g p q = absurd (omega arith)
      by-sign true (suc k) h g p q =
          let i = InRange-wider true (suc k) B x h g p in
          let j = InRange-wider true (suc k) B y h g q in
          by-sign_left k _ _
          (sym (shifted_right-is_shr true B _ k (omega arith) (omega arith) (and-in_range true B x y (omega arith)))
          ∙ shifted_right-and true B x y k (omega arith)
          ∙ ap₂ (bitwise_and true B) (shifted_right-is_shr true B x k (omega arith) (omega arith) i) (shifted_right-is_shr true B y k (omega arith) (omega arith) j))
          (alike B _ _ (omega arith) (sign-left k x p) (sign-left k y q))

  and-wider : bitwise_and s A x y ≡ bitwise_and s B x y
  and-wider =
      sym (sym (wrap-of_in_range s A _ h and-narrow) ∙ and-truncated s s A B x y h g
      ∙ ap₂ (bitwise_and s A) (wrap-of_in_range s A x h p) (wrap-of_in_range s A y h q))

  wide-left : InRange s B x
  wide-left = InRange-wider s A B x h g p

  wide-right : InRange s B y
  wide-right = InRange-wider s A B y h g q

  or-wider : bitwise_or s A x y ≡ bitwise_or s B x y
  or-wider = omega (arith, ints, or-by_and s A x y h p q, or-by_and s B x y (omega arith) wide-left wide-right, and-wider)

  xor-wider : bitwise_xor s A x y ≡ bitwise_xor s B x y
  xor-wider = omega (arith, ints, xor-by_and s A x y h p q, xor-by_and s B x y (omega arith) wide-left wide-right, and-wider)

-- ---- at each width what 128 bits give

module _ (s : Bool) (B : ℕ) (x y : ℤ) (h : 1 ≤ B) (g : B ≤ 128) (p : InRange s B x) (q : InRange s B y) where
  pub and-at_128 : bitwise_and s B x y ≡ bitwise_and s 128 x y
  and-at_128 = and-wider s B 128 x y h g p q

  pub or-at_128 : bitwise_or s B x y ≡ bitwise_or s 128 x y
  or-at_128 = or-wider s B 128 x y h g p q

  pub xor-at_128 : bitwise_xor s B x y ≡ bitwise_xor s 128 x y
  xor-at_128 = xor-wider s B 128 x y h g p q

-- ---- what the primitives give, whose own `==` compares their patterns

most : (w : Width) → width w ≤ 128
most w8 = omega arith
most w16 = omega arith
most w32 = omega arith
most w64 = omega arith
most w128 = omega arith

module _ (w : Width) (x y : ℤ) (p : FitsSigned w x) (q : FitsSigned w y) where
  in_left : InRange true (width w) x
  in_left = signed-in_range w x p

  in_right : InRange true (width w) y
  in_right = signed-in_range w y q

  pattern-lt : (z : ℤ) → FitsSigned w z → cast_unsigned w z < 2 ^ width w
  pattern-lt z r = subst (λ (n : ℕ). n < 2 ^ width w) (sym (cast_unsigned-residue w z r)) (residue-lt (width w) z)

  pub primitive_and : bit_and (cast_unsigned w x) (cast_unsigned w y) ≡ cast_unsigned w (bitwise_and true 128 x y)
  primitive_and =
      sym (of_z-to_z w _ (and_lt (width w) _ _ (pattern-lt x p) (pattern-lt y q)))
      ∙ ap (cast_unsigned w) (bitand-signed w x y _ refl in_left in_right ∙ sym (and-is true (width w) x y)
      ∙ and-at_128 true (width w) x y (bits_some w) (most w) in_left in_right)

  pub primitive_or : bit_or (cast_unsigned w x) (cast_unsigned w y) ≡ cast_unsigned w (bitwise_or true 128 x y)
  primitive_or =
      sym (of_z-to_z w _ (or_lt (width w) _ _ (pattern-lt x p) (pattern-lt y q)))
      ∙ ap (cast_unsigned w) (bitor-signed w x y _ refl in_left in_right ∙ sym (or-is true (width w) x y)
      ∙ or-at_128 true (width w) x y (bits_some w) (most w) in_left in_right)

  pub primitive_xor : bit_xor (cast_unsigned w x) (cast_unsigned w y) ≡ cast_unsigned w (bitwise_xor true 128 x y)
  primitive_xor =
      sym (of_z-to_z w _ (xor_lt (width w) _ _ (pattern-lt x p) (pattern-lt y q)))
      ∙ ap (cast_unsigned w) (bitxor-signed w x y _ refl in_left in_right ∙ sym (xor-is true (width w) x y)
      ∙ xor-at_128 true (width w) x y (bits_some w) (most w) in_left in_right)

pub ruleset extensions = (Decides-int_eq, and-at_128, or-at_128, xor-at_128, shifted_right-is_shr, primitive_and, primitive_or, primitive_xor)
