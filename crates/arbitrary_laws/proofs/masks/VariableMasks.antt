-- The mask of the k lowest bits, where k is variable: `(1 << k) - 1`, wrapped or not, `!(max << k)` and
-- `max >> (BITS - k)`. It keeps some bits of a number and clears the others. Each form is stated by the wrapped
-- one, `low s B k` below, so that a law of the mask is stated once. Callers name the set `variable_masks`, and
-- `variable_parts` for exact sums, differences and the order.
use Rattle.std.specs.Int.{int_rem_euclid, int_shr}
use Rattle.std.specs.Prelude.{Bool, false, neg_ℤ, negsuc, pos, true, ℕ, ℤ, ◌*ℤ◌, ◌*◌, ◌+ℤ◌, ◌+◌, ◌-ℤ◌, ◌-◌, ◌/◌, ◌<ℤ◌, ◌<◌, ◌^◌, ◌≡◌, ◌≤ℤ◌, ◌≤◌}
use Rattle.std.proofs.Common.{ap, ap₂, arith, refl, subst, sym, ◌∙◌}
use Rattle.std.proofs.Math.Nat.{div-eq_of_lt-le, mul-mod_left, pow-le-pow_right}
use Rattle.std.proofs.lemmas.Bool.Decides.{Decides-int_eq}
use Rattle.std.proofs.lemmas.Int.{int_rem_euclid_is, ints}
use Rattle.std.proofs.lemmas.Nat.{pow_below, pow_pos}
use Rattle.arbitrary_base.specs.Operation.{bitwise_and, bitwise_not, bitwise_or, bitwise_xor, shifted_left, shifted_right, wrapped_difference, wrapped_sum}
use Rattle.arbitrary_base.specs.Range.{InRange, hi}
use Rattle.arbitrary_base.specs.Residue.{Congruent, wrap}
use Rattle.arbitrary_base.proofs.bit_lists.StdBitwise.{not-signed, not-unsigned}
use Rattle.arbitrary_base.proofs.modular.Congruence.{Congruent-by_times, Congruent-mul_left, Congruent-narrower, Congruent-refl, Congruent-trans, pow_split}
use Rattle.arbitrary_base.proofs.modular.Residue.{wrap-of_in_range}
use Rattle.arbitrary_base.proofs.operations.BitsAndSums.{and-in_range}
use Rattle.arbitrary_base.proofs.operations.Bitwise.{bitwise_or-commutes, bitwise_xor-commutes}
use Rattle.arbitrary_base.proofs.operations.Complement.{not-is_difference}
use Rattle.arbitrary_base.proofs.operations.Definition.{difference-is, left-is, not-in_range, not-is, right-is, sum-is}
use Rattle.arbitrary_base.proofs.operations.KnownMask.{and-within}
use Rattle.arbitrary_base.proofs.operations.Shift.{shifted_left-and, shifted_left-difference, shifted_left-is_product, shifted_right-is_shr}
use Rattle.arbitrary_base.proofs.operations.ShiftAsProduct.{shl-congruent, shr-range}
use Rattle.arbitrary_base.proofs.operations.WrappedRing.{by-congruence, difference-congruent, difference-in_range, product-in_range}
use Rattle.arbitrary_laws.proofs.bits.Identities.{bitwise_and-associates, bitwise_and-complement, bitwise_and-not_zero, bitwise_and-same, bitwise_and-zero, bitwise_not-zero, bitwise_not-zero_signed, bitwise_xor-undoes}
use Rattle.arbitrary_laws.proofs.bits.Parts.{and_not-is_xor, or-of_parts}
use Rattle.arbitrary_laws.proofs.masks.NumberUnderMask.{and-by_complement}
use Rattle.arbitrary_laws.proofs.orders.Order.{le-tested, lt-tested}
use Rattle.arbitrary_laws.proofs.places.SingleBit.{left-of_one}
use Rattle.arbitrary_laws.proofs.shifts.ShiftAndBack.{right_left-mask, right_left-mask_signed, right_left-numeral, right_left-numeral_signed, shifted_left-past, shifted_left-twice}
use Rattle.arbitrary_laws.proofs.shifts.ShiftPairs.{left_right-wraps}
use Rattle.arbitrary_laws.proofs.sums.Ring.{wrapped_difference-zero}

-- ---- the mask, as a number

not-congruent : (s : Bool) (B : ℕ) (x a : ℤ) → 1 ≤ B → Congruent B x a → Congruent B (bitwise_not s B x) (negsuc 0 -ℤ a)
not-congruent s B x a h c =
    let d = difference-congruent s B _ _ _ _ (difference-congruent s B _ _ _ _ (Congruent-refl B (pos 0)) c) (Congruent-refl B (pos 1)) in
    let e : pos 0 -ℤ a -ℤ pos 1 ≡ negsuc 0 -ℤ a = omega (arith, ints) in
    subst (λ (z : ℤ). Congruent B z (negsuc 0 -ℤ a)) (sym (not-is_difference s B x h)) (subst (Congruent B _) e d)

abbrev low : Bool → ℕ → ℕ → ℤ
low s B k = wrapped_difference s B (shifted_left s B (pos 1) k) (pos 1)

module _ (s : Bool) (B k : ℕ) (place : k < B) where
  below-top : pos (2 ^ k - 1) ≤ℤ hi s B
  below-top = by-sign s
    where
      by-sign : (s : Bool) → pos (2 ^ k - 1) ≤ℤ hi s B
      by-sign false = let p = pow_pos k in let q = pow_below k B place in omega (arith, ints)
      by-sign true =
          let p = pow_pos k in
          let q : 2 ^ k ≤ 2 ^ (B - 1) = pow-le-pow_right (omega arith) (omega arith) in
          omega (arith, ints)

  number-in_range : InRange s B (pos (2 ^ k - 1))
  number-in_range = by-sign s below-top
    where
      by-sign : (s : Bool) → pos (2 ^ k - 1) ≤ℤ hi s B → InRange s B (pos (2 ^ k - 1))
      by-sign false h = record { low = omega (arith, ints); high = h }
      by-sign true h = let p = pow_pos (B - 1) in record { low = omega (arith, ints); high = h }

  some : 1 ≤ B
  some = omega arith

  low-congruent : Congruent B (low s B k) (pos 1 *ℤ pos (2 ^ k) -ℤ pos 1)
  low-congruent = difference-congruent s B _ _ _ _ (shl-congruent s B k (pos 1) _ some place (left-is s B (pos 1) k)) (Congruent-refl B (pos 1))

  low-number : low s B k ≡ pos (2 ^ k - 1)
  low-number =
      let p = pow_pos k in
      by-congruence s B _ _ _ _ some (difference-in_range s B _ _ some) number-in_range low-congruent (Congruent-refl B _) (omega (arith, ints))

  -- the complement of ones that are moved up
  not-of_ones : (y : ℤ) → Congruent B y (negsuc 0) → bitwise_not s B (shifted_left s B y k) ≡ low s B k
  not-of_ones y c =
      let m = Congruent-trans B _ _ _ (shl-congruent s B k y _ some place (left-is s B y k)) (Congruent-mul_left B y (negsuc 0) (pos (2 ^ k)) c) in
      by-congruence s B _ _ _ _ some (not-in_range s B _ some) (difference-in_range s B _ _ some)
      (not-congruent s B _ _ some m) low-congruent (omega (arith, ints))

pub not-of_highest : (B k : ℕ) (y : ℤ) → k < B → y ≡ pos (2 ^ B) -ℤ pos 1
    → bitwise_not false B (shifted_left false B y k) ≡ wrapped_difference false B (shifted_left false B (pos 1) k) (pos 1)
not-of_highest B k y g e = not-of_ones false B k g y (Congruent-by_times B _ _ (pos 1) (omega (arith, ints)))

pub not-of_minus_one : (B k : ℕ) → k < B
    → bitwise_not true B (shifted_left true B (negsuc 0) k) ≡ wrapped_difference true B (shifted_left true B (pos 1) k) (pos 1)
not-of_minus_one B k g = not-of_ones true B k g (negsuc 0) (Congruent-refl B (negsuc 0))

not-of_not_zero : (s : Bool) (B k : ℕ) → k < B
    → bitwise_not s B (shifted_left s B (bitwise_not s B (pos 0)) k) ≡ wrapped_difference s B (shifted_left s B (pos 1) k) (pos 1)
not-of_not_zero s B k g =
    let c = not-congruent s B (pos 0) (pos 0) (omega arith) (Congruent-refl B (pos 0)) in
    let e : negsuc 0 -ℤ pos 0 ≡ negsuc 0 = omega (arith, ints) in
    not-of_ones s B k g (bitwise_not s B (pos 0)) (subst (Congruent B _) e c)

-- ones that are moved down
pub right-of_highest : (B k : ℕ) (y : ℤ) → 1 ≤ k → k ≤ B → y ≡ pos (2 ^ B) -ℤ pos 1
    → shifted_right false B y k ≡ wrapped_difference false B (shifted_left false B (pos 1) (B - k)) (pos 1)
right-of_highest B k y f g d =
    let p = pow_pos B in
    let q = pow_pos (B - k) in
    let r = pow_pos k in
    let h : 1 ≤ B = omega arith in
    let e = pow_split k B g in
    let n : y ≡ pos (2 ^ B - 1) = omega (arith, ints) in
    let i : InRange false B y = record { low = omega (arith, ints); high = omega (arith, ints) } in
    let w : (2 ^ B - 1) / 2 ^ k ≡ 2 ^ (B - k) - 1 = div-eq_of_lt-le (2 ^ k) (grind arith) (grind arith) in
    shifted_right-is_shr false B _ k h g i ∙ ap (λ (z : ℤ). int_shr z k) n ∙ ap pos w ∙ sym (low-number false B (B - k) (omega arith))

-- and the mask by the operator `-`
pub low-exact : (B k : ℕ) → k < B → (shifted_left false B (pos 1) k ≡ shifted_left false B (pos 1) k)
    × (shifted_left false B (pos 1) k -ℤ pos 1 ≡ wrapped_difference false B (shifted_left false B (pos 1) k) (pos 1))
low-exact B k g = let p = pow_pos k in let e = left-of_one B k g in let d = low-number false B k g in (refl, omega (arith, ints))

pub left-in_range : (s : Bool) (B : ℕ) (x : ℤ) (k : ℕ) → 1 ≤ B → k ≤ B → InRange s B (shifted_left s B x k)
left-in_range s B x k h g = subst (InRange s B) (sym (shifted_left-is_product s B x k h g)) (product-in_range s B x (pos (2 ^ k)) h)

-- a multiple leaves no remainder, nor does what is congruent to one by a greater power
multiple-leaves_none : (m : ℤ) (n : ℕ) → 0 < n → int_rem_euclid (m *ℤ pos n) (pos n) ≡ pos 0
multiple-leaves_none (pos a) n p =
    let e : pos a *ℤ pos n +ℤ pos (0 * n) ≡ pos (a * n) = grind (arith, ints) in
    int_rem_euclid_is (pos a *ℤ pos n) (pos n) n 0 (a * n) p refl e ∙ ap pos (mul-mod_left a n)
multiple-leaves_none (negsuc a) n p =
    let e : negsuc a *ℤ pos n +ℤ pos ((a + 1) * n) ≡ pos (0 * n) = grind (arith, ints) in
    int_rem_euclid_is (negsuc a *ℤ pos n) (pos n) n (a + 1) (0 * n) p refl e ∙ ap pos (mul-mod_left 0 n)

moved-leaves_none : (B k : ℕ) (q y : ℤ) → k ≤ B → Congruent B y (q *ℤ pos (2 ^ k)) → int_rem_euclid y (pos (2 ^ k)) ≡ pos 0
moved-leaves_none B k q y h c = let n = Congruent-narrower k B y _ h c in n.remainders ∙ multiple-leaves_none q (2 ^ k) (pow_pos k)

-- ---- what it leaves and clears

module _ (s : Bool) (B : ℕ) (x : ℤ) (k : ℕ) (place : k < B) (range : InRange s B x) where
  pub and-not_low : bitwise_and s B x (bitwise_not s B (wrapped_difference s B (shifted_left s B (pos 1) k) (pos 1))) ≡ shifted_left s B (shifted_right s B x k) k
  and-not_low = ap (λ (z : ℤ). bitwise_and s B x (bitwise_not s B z)) (low-number s B k place) ∙ by-sign s (number-in_range s B k place) range
    where
      by-sign : (s : Bool) → InRange s B (pos (2 ^ k - 1)) → InRange s B x
          → bitwise_and s B x (bitwise_not s B (pos (2 ^ k - 1))) ≡ shifted_left s B (shifted_right s B x k) k
      by-sign false r f =
          let p = pow_pos k in
          let q = pow_below k B place in
          let n = not-unsigned false B (pos (2 ^ k - 1)) _ refl (omega arith) r (not-is false B (pos (2 ^ k - 1))) in
          let e : bitwise_not false B (pos (2 ^ k - 1)) ≡ pos (2 ^ B) -ℤ pos (2 ^ k) = omega (arith, ints) in
          ap (bitwise_and false B x) e ∙ sym (right_left-numeral B x k (omega arith) (omega arith))
      by-sign true r f =
          let p = pow_pos k in
          let n = not-signed true B (pos (2 ^ k - 1)) _ refl (omega arith) r (not-is true B (pos (2 ^ k - 1))) in
          let e : bitwise_not true B (pos (2 ^ k - 1)) ≡ neg_ℤ (pos (2 ^ k)) = omega (arith, ints) in
          ap (bitwise_and true B x) e ∙ sym (right_left-numeral_signed B x k (omega arith) place)

  -- what it leaves: a number of k bits, and what shifts to the right and back clear
  pub and-low : (bitwise_and s B x (wrapped_difference s B (shifted_left s B (pos 1) k) (pos 1)) ≡ x -ℤ shifted_left s B (shifted_right s B x k) k)
      × (pos 0 ≤ℤ bitwise_and s B x (wrapped_difference s B (shifted_left s B (pos 1) k) (pos 1)))
      × (bitwise_and s B x (wrapped_difference s B (shifted_left s B (pos 1) k) (pos 1)) <ℤ pos (2 ^ k))
  and-low =
      let p = pow_pos k in
      let w = and-within s B (2 ^ k - 1) x (omega arith) (below-top s B k place) in
      let e : bitwise_and s B x (low s B k) ≡ pos w.0 = ap (bitwise_and s B x) (low-number s B k place) ∙ w.1 in
      let l : bitwise_and s B x (low s B k) <ℤ pos (2 ^ k) = let m = w.2 in omega (arith, ints) in
      let c = and-by_complement s B x (low s B k) (omega arith) range in
      let d = and-not_low in
      (omega (arith, ints), omega (arith, ints), l)

  left-part : shifted_left s B (shifted_right s B x k) k ≡ bitwise_and s B x (bitwise_not s B (low s B k))
  left-part = sym and-not_low

  -- exactly, also where no mask is in the goal
  pub rest-in_range : (shifted_left s B (shifted_right s B x k) k ≡ shifted_left s B (shifted_right s B x k) k) × InRange s B (x -ℤ shifted_left s B (shifted_right s B x k) k)
  rest-in_range = (refl, subst (InRange s B) and-low.0 (and-in_range s B x (low s B k) (omega arith)))

  pub parts-in_range : InRange s B (shifted_left s B (shifted_right s B x k) k +ℤ bitwise_and s B x (wrapped_difference s B (shifted_left s B (pos 1) k) (pos 1)))
  parts-in_range = subst (InRange s B) (let a = and-low.0 in omega (arith, ints)) range

  pub parts-exact : (bitwise_and s B x (wrapped_difference s B (shifted_left s B (pos 1) k) (pos 1)) ≡ bitwise_and s B x (wrapped_difference s B (shifted_left s B (pos 1) k) (pos 1)))
      × (shifted_left s B (shifted_right s B x k) k +ℤ bitwise_and s B x (wrapped_difference s B (shifted_left s B (pos 1) k) (pos 1)) ≡ x)
      × (x -ℤ bitwise_and s B x (wrapped_difference s B (shifted_left s B (pos 1) k) (pos 1)) ≡ shifted_left s B (shifted_right s B x k) k)
  parts-exact = let a = and-low.0 in (refl, omega (arith, ints), omega (arith, ints))

  -- the rest is the greatest multiple of 2^k that is at most x
  pub rest-rounds : (shifted_left s B (shifted_right s B x k) k ≡ shifted_left s B (shifted_right s B x k) k)
      × (shifted_left s B (shifted_right s B x k) k ≤ℤ x) × (x <ℤ (shifted_left s B (shifted_right s B x k) k +ℤ pos (2 ^ k)))
      × (int_rem_euclid (shifted_left s B (shifted_right s B x k) k) (pos (2 ^ k)) ≡ pos 0)
  rest-rounds =
      let a = and-low in
      let c = shl-congruent s B k (shifted_right s B x k) _ (omega arith) place (left-is s B (shifted_right s B x k) k) in
      (refl, omega (arith, ints), omega (arith, ints), moved-leaves_none B k _ _ (omega arith) c)

  pub low-joined : bitwise_or s B (shifted_left s B (shifted_right s B x k) k) (bitwise_and s B x (wrapped_difference s B (shifted_left s B (pos 1) k) (pos 1))) ≡ x
  low-joined =
      ap (λ (z : ℤ). bitwise_or s B z (bitwise_and s B x (low s B k))) left-part ∙ bitwise_or-commutes s B _ _
      ∙ or-of_parts s B x (low s B k) (omega arith) range

  pub low-turned : bitwise_xor s B (shifted_left s B (shifted_right s B x k) k) (bitwise_and s B x (wrapped_difference s B (shifted_left s B (pos 1) k) (pos 1))) ≡ x
  low-turned =
      ap (λ (z : ℤ). bitwise_xor s B z (bitwise_and s B x (low s B k))) (left-part ∙ and_not-is_xor s B x (low s B k))
      ∙ bitwise_xor-undoes s B x (bitwise_and s B x (low s B k)) (omega arith) range

  pub without-low : bitwise_xor s B x (bitwise_and s B x (wrapped_difference s B (shifted_left s B (pos 1) k) (pos 1))) ≡ shifted_left s B (shifted_right s B x k) k
  without-low = sym (and_not-is_xor s B x (low s B k)) ∙ and-not_low

  pub low-again : bitwise_and s B (bitwise_and s B x (wrapped_difference s B (shifted_left s B (pos 1) k) (pos 1))) (wrapped_difference s B (shifted_left s B (pos 1) k) (pos 1))
      ≡ bitwise_and s B x (wrapped_difference s B (shifted_left s B (pos 1) k) (pos 1))
  low-again =
      bitwise_and-associates s B x (low s B k) (low s B k)
      ∙ ap (bitwise_and s B x) (bitwise_and-same s B (low s B k) (omega arith) (difference-in_range s B _ _ (omega arith)))

  -- the same, wrapped
  pub low-wrapped : wrapped_difference s B x (shifted_left s B (shifted_right s B x k) k) ≡ bitwise_and s B x (wrapped_difference s B (shifted_left s B (pos 1) k) (pos 1))
  low-wrapped =
      difference-is s B x _ ∙ ap (wrap s B) (sym and-low.0) ∙ wrap-of_in_range s B _ (omega arith) (and-in_range s B x (low s B k) (omega arith))

  pub parts-wrapped : wrapped_sum s B (shifted_left s B (shifted_right s B x k) k) (bitwise_and s B x (wrapped_difference s B (shifted_left s B (pos 1) k) (pos 1))) ≡ x
  parts-wrapped =
      let e : shifted_left s B (shifted_right s B x k) k +ℤ bitwise_and s B x (low s B k) ≡ x = let a = and-low.0 in omega (arith, ints) in
      sum-is s B _ _ ∙ ap (wrap s B) e ∙ wrap-of_in_range s B x (omega arith) range

  -- and again without what they cleared
  pub right-again : shifted_right s B (shifted_left s B (shifted_right s B x k) k) k ≡ shifted_right s B x k
  right-again = left_right-wraps s B (shifted_right s B x k) k (omega arith) ∙ wrap-of_in_range s (B - k) _ (omega arith) (shr-range s B k x _ (omega arith) place range (right-is s B x k))

-- ---- ones that are moved up, as a mask

pub and-highest_moved : (B k : ℕ) (x y : ℤ) → k ≤ B → y ≡ pos (2 ^ B) -ℤ pos 1
    → bitwise_and false B x (shifted_left false B y k) ≡ shifted_left false B (shifted_right false B x k) k
and-highest_moved B k x y g e = ap (λ (z : ℤ). bitwise_and false B x (shifted_left false B z k)) e ∙ sym (right_left-mask B x k g)

pub and-minus_one_moved : (B k : ℕ) (x : ℤ) → k ≤ B
    → bitwise_and true B x (shifted_left true B (negsuc 0) k) ≡ shifted_left true B (shifted_right true B x k) k
and-minus_one_moved B k x g = sym (right_left-mask_signed B x k g)

again : (s : Bool) (B k : ℕ) (x m : ℤ) → k < B → InRange s B x → shifted_left s B (shifted_right s B x k) k ≡ bitwise_and s B x m
    → shifted_right s B (bitwise_and s B x m) k ≡ shifted_right s B x k
again s B k x m g f e = ap (λ (z : ℤ). shifted_right s B z k) (sym e) ∙ right-again s B x k g f

pub right-of_masked : (B k : ℕ) (x y : ℤ) → k < B → InRange false B x → y ≡ pos (2 ^ B) -ℤ pos 1
    → shifted_right false B (bitwise_and false B x (shifted_left false B y k)) k ≡ shifted_right false B x k
right-of_masked B k x y g f e =
    again false B k x _ g f (right_left-mask B x k (omega arith) ∙ ap (λ (z : ℤ). bitwise_and false B x (shifted_left false B z k)) (sym e))

pub right-of_masked_signed : (B k : ℕ) (x : ℤ) → k < B → InRange true B x
    → shifted_right true B (bitwise_and true B x (shifted_left true B (negsuc 0) k)) k ≡ shifted_right true B x k
right-of_masked_signed B k x g f = again true B k x _ g f (right_left-mask_signed B x k (omega arith))

-- what is shifted past the mask, and out of it
module _ (s : Bool) (B : ℕ) (x : ℤ) (k : ℕ) (place : k < B) (range : InRange s B x) where
  pub right-of_low : shifted_right s B (bitwise_and s B x (wrapped_difference s B (shifted_left s B (pos 1) k) (pos 1))) k ≡ pos 0
  right-of_low =
      let a = and-low s B x k place range in
      small (bitwise_and s B x (low s B k)) a.1 a.2 (and-in_range s B x (low s B k) (omega arith))
    where
      small : (z : ℤ) → pos 0 ≤ℤ z → z <ℤ pos (2 ^ k) → InRange s B z → shifted_right s B z k ≡ pos 0
      small (negsuc n) l h f = absurd (omega (arith, ints))
      small (pos n) l h f =
          let p = pow_pos k in
          let q : n / 2 ^ k ≡ 0 = div-eq_of_lt-le (2 ^ k) (omega arith) (omega (arith, ints)) in
          shifted_right-is_shr s B (pos n) k (omega arith) (omega arith) f ∙ ap pos q

  -- the rest is a multiple of 2^k, which a shift by the other places leaves nothing of
  pub left-of_low : (j : ℕ) → j < B → B ≤ j + k
      → shifted_left s B (bitwise_and s B x (wrapped_difference s B (shifted_left s B (pos 1) k) (pos 1))) j ≡ shifted_left s B x j
  left-of_low j g m =
      let h : 1 ≤ B = omega arith in
      let y = shifted_left s B (shifted_right s B x k) k in
      ap (λ (z : ℤ). shifted_left s B z j) (sym (low-wrapped s B x k place range)) ∙ shifted_left-difference s B x y j h (omega arith)
      ∙ ap (wrapped_difference s B (shifted_left s B x j)) (shifted_left-past s B (shifted_right s B x k) k j h (omega arith) (omega arith) (omega arith))
      ∙ wrapped_difference-zero s B (shifted_left s B x j) h (left-in_range s B x j h (omega arith))

pub low-of_left : (s : Bool) (B : ℕ) (x : ℤ) (j k : ℕ) → k ≤ j → j < B
    → bitwise_and s B (shifted_left s B x j) (wrapped_difference s B (shifted_left s B (pos 1) k) (pos 1)) ≡ pos 0
low-of_left s B x j k g m =
    let h : 1 ≤ B = omega arith in
    let ones = bitwise_not s B (pos 0) in
    let z = shifted_left s B x (j - k) in
    let high = shifted_left s B ones k in
    let y = shifted_left s B z k in
    let i : (j - k) + k ≡ j = omega arith in
    let a : shifted_left s B x j ≡ y = ap (shifted_left s B x) (sym i) ∙ sym (shifted_left-twice s B x (j - k) k (omega arith)) in
    let b : y ≡ bitwise_and s B y high =
    ap (λ (v : ℤ). shifted_left s B v k) (sym (bitwise_and-not_zero s B z h (left-in_range s B x (j - k) h (omega arith)))) ∙ shifted_left-and s B z ones k (omega arith) in
    ap₂ (bitwise_and s B) (a ∙ b) (sym (not-of_not_zero s B k (omega arith)))
    ∙ bitwise_and-associates s B y high _ ∙ ap (bitwise_and s B y) (bitwise_and-complement s B high h) ∙ bitwise_and-zero s B y h

-- the mask by each of its forms, the parts of a number above it and under it, and these under `&`, `|`, `^` and shifts
pub ruleset variable_masks = (Decides-int_eq, not-of_highest, not-of_minus_one, bitwise_not-zero, bitwise_not-zero_signed, right-of_highest, low-exact, and-not_low, low-joined, low-turned, without-low, low-again, low-wrapped, parts-wrapped, right-again, and-highest_moved, and-minus_one_moved, right-of_masked, right-of_masked_signed, right-of_low, left-of_low, low-of_left, bitwise_or-commutes, bitwise_xor-commutes)

-- these with exact sums, differences and orders. Without `ints`, because with a signed number the search reaches its limit
pub ruleset variable_parts = (Decides-int_eq, lt-tested, le-tested, not-of_highest, not-of_minus_one, right-of_highest, low-exact, and-not_low, left-of_one, and-low, rest-in_range, parts-in_range, parts-exact, rest-rounds)
