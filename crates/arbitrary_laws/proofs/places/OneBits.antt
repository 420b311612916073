-- The numbers `1 << k` and `(1 << k) - 1`: how they relate, the zeros and ones at their ends, and a number's parts
-- above place k and below it. Callers name the set `one_bits`, and `one_bit_counts` for the zeros and ones.
use Rattle.std.specs.Bool.{beq}
use Rattle.std.specs.List.{prefix_len, suffix_len}
use Rattle.std.specs.Ordering.{int_cmp, int_eq, is_lt}
use Rattle.std.specs.Prelude.{Bool, List, drop, false, length, pos, replicate, suc, take, true, zero, ℕ, ℤ, ◌*◌, ◌++◌, ◌+◌, ◌-ℤ◌, ◌-◌, ◌<◌, ◌^◌, ◌∷◌, ◌≡◌, ◌≢◌, ◌≤◌, ◌⊎◌}
use Rattle.std.proofs.Common.{ap, ap₂, arith, inl, inr, pow-suc, refl, subst, sym, ◌∙◌}
use Rattle.std.proofs.Math.Pow.{pow_mono}
use Rattle.std.proofs.lemmas.Bool.{cases_lt}
use Rattle.std.proofs.lemmas.Bool.Decides.{Decides-int_eq}
use Rattle.std.proofs.lemmas.Int.{ints}
use Rattle.std.proofs.lemmas.Nat.{pow_below, pow_pos}
use Rattle.arbitrary_base.specs.BitList.{bits}
use Rattle.arbitrary_base.specs.Operation.{bitwise_and, bitwise_not, bitwise_or, rotated_left, shifted_left, shifted_right}
use Rattle.arbitrary_base.specs.Range.{InRange}
use Rattle.arbitrary_base.proofs.bit_lists.StdBitwise.{not-unsigned}
use Rattle.arbitrary_base.proofs.bit_lists.TwosComplement.{bits-wrap}
use Rattle.arbitrary_base.proofs.bit_lists.UnsignedNumber.{length-bits}
use Rattle.arbitrary_base.proofs.operations.Bitwise.{bitwise_or-commutes}
use Rattle.arbitrary_base.proofs.operations.Definition.{by-bits, difference-is, left-is, not-is, rotl-is}
use Rattle.arbitrary_base.proofs.storages.Primitive.{unsigned-in_range}
use Rattle.arbitrary_calls.proofs.counts.EndCounts.{tail-of_zero}
use Rattle.arbitrary_calls.proofs.counts.ZeroRunBounds.{leading-high, leading-low}
use Rattle.arbitrary_laws.proofs.bits.Parts.{or-of_parts}
use Rattle.arbitrary_laws.proofs.counts.CountBounds.{bits-one, bits-one_bit, front-of_one_bit, popcount-of_one_bit}
use Rattle.arbitrary_laws.proofs.counts.LowestBitCounts.{popcount-before_one_bit}
use Rattle.arbitrary_laws.proofs.masks.MaskTests.{xor-unchanged}
use Rattle.arbitrary_laws.proofs.masks.NumberUnderMask.{and-by_complement}
use Rattle.arbitrary_laws.proofs.orders.Order.{lt-tested}
use Rattle.arbitrary_laws.proofs.places.BitPlaces.{one_bit-some}
use Rattle.arbitrary_laws.proofs.places.LowestBit.{before, bits-before}
use Rattle.arbitrary_laws.proofs.places.SingleBit.{left-of_one}
use Rattle.arbitrary_laws.proofs.shifts.ShiftAndBack.{right_left-numeral}

-- ---- two numbers `1 << k`

pub one_bits-compared : (s : Bool) (B j k : ℕ) → j < B → k < B
    → ((int_eq (shifted_left s B (pos 1) j) (shifted_left s B (pos 1) k) ≡ true) × (j ≡ k)) ⊎ ((int_eq (shifted_left s B (pos 1) j) (shifted_left s B (pos 1) k) ≡ false) × (j ≢ k))
one_bits-compared s B j k g h = by-test (int_eq (shifted_left s B (pos 1) j) (shifted_left s B (pos 1) k)) refl
  where
    by-test : (b : Bool) → b ≡ int_eq (shifted_left s B (pos 1) j) (shifted_left s B (pos 1) k)
        → ((int_eq (shifted_left s B (pos 1) j) (shifted_left s B (pos 1) k) ≡ true) × (j ≡ k)) ⊎ ((int_eq (shifted_left s B (pos 1) j) (shifted_left s B (pos 1) k) ≡ false) × (j ≢ k))
    by-test true e =
        let d = (Decides-int_eq (shifted_left s B (pos 1) j) (shifted_left s B (pos 1) k)).0 (sym e) in
        inl (sym e, sym (front-of_one_bit s B j g) ∙ ap (λ (z : ℤ). prefix_len (beq false) (bits B z)) d ∙ front-of_one_bit s B k h)
    by-test false e =
        inr (
          sym e,
          λ d.
              let t : true ≡ false = sym ((Decides-int_eq (shifted_left s B (pos 1) j) (shifted_left s B (pos 1) k)).1 (ap (shifted_left s B (pos 1)) d)) ∙ sym e in absurd (cc),
        )

pub one_bits-ordered : (B j k : ℕ) → j < k → k < B → is_lt (int_cmp (shifted_left false B (pos 1) j) (shifted_left false B (pos 1) k)) ≡ true
one_bits-ordered B j k g h =
    let a = left-of_one B j (omega arith) in
    let b = left-of_one B k h in
    let m : suc j ≤ k = omega arith in
    let p = pow_mono m in
    let q = pow-suc 2 j in
    let o = pow_pos j in
    (lt-tested (shifted_left false B (pos 1) j) (shifted_left false B (pos 1) k)).1 (omega (arith, ints))

-- `1` turned to place k passes no end
pub one-turned : (s : Bool) (B k : ℕ) → k < B → rotated_left s B (pos 1) k ≡ shifted_left s B (pos 1) k
one-turned s zero k h = absurd (omega arith)
one-turned s (suc n) k h =
    let l = bits (suc n) (pos 1) in
    let e : l ≡ true ∷ replicate n false = bits-one n in
    let w = length-bits (suc n) (pos 1) in
    let m : suc n - k ≡ suc (n - k) = omega arith in
    let d : drop (length l - k) l ≡ replicate k false =
    ap (λ (i : ℕ). drop (i - k) l) w ∙ ap (λ (i : ℕ). drop i l) m ∙ ap (drop (suc (n - k))) e ∙ rest (n - k) n (omega arith) ∙ ap (λ (i : ℕ). replicate i false) (omega arith) in
    by-bits s _ _ _ _ (rotl-is s (suc n) (pos 1) k) (left-is s (suc n) (pos 1) k) (ap (λ (p : List Bool). p ++ take (length l - k) l) d)
  where
    rest : (i n : ℕ) → i ≤ n → drop i (replicate n false) ≡ replicate (n - i) false
    rest zero n h = ap (λ (i : ℕ). replicate i false) (let e : n ≡ n - 0 = omega arith in e)
    rest (suc i) zero h = absurd (omega arith)
    rest (suc i) (suc n) h = rest i n (omega arith) ∙ ap (λ (j : ℕ). replicate j false) (let e : n - i ≡ suc n - suc i = omega arith in e)

-- ---- how many zeros are above `1 << k`, and what `(1 << k) - 1` has

tail-by_power : (B k n : ℕ) → k < B → 2 ^ k ≤ n → n < 2 * 2 ^ k → suffix_len (beq false) (bits B (pos n)) + k + 1 ≡ B
tail-by_power B k n h low high =
    let m : suc k ≤ B = omega arith in
    let q = pow_mono m in
    let d = pow-suc 2 k in
    let o = pow_pos k in
    let f = unsigned-in_range B n (omega arith) in
    let t = suffix_len (beq false) (bits B (pos n)) in
    let l : 2 ^ (B - 1 - t) ≤ n = (let e = leading-low false B (pos n) (omega arith) f (omega (arith, ints)) in omega (arith, ints)) in
    let u : n < 2 ^ (B - t) = (let e = leading-high false B (pos n) (omega arith) f (omega (arith, ints)) in omega (arith, ints)) in
    elim (cases_lt k (B - 1 - t)) [
      | inl more ↦ (let c : suc k ≤ B - 1 - t = more in let r = pow_mono c in absurd (omega arith))
      | inr less ↦ elim (cases_lt k (B - t)) [
        | inl w ↦ omega (arith, less, w)
        | inr w ↦ (let r = pow_mono w in absurd (omega arith))
      ]
    ]

pub tail-of_one_bit : (B k : ℕ) → k < B → suffix_len (beq false) (bits B (shifted_left false B (pos 1) k)) + k + 1 ≡ B
tail-of_one_bit B k h =
    let o = pow_pos k in
    subst (λ (z : ℤ). suffix_len (beq false) (bits B z) + k + 1 ≡ B) (sym (left-of_one B k h)) (tail-by_power B k (2 ^ k) h (omega arith) (omega arith))

run-before : (k : ℕ) (r : List Bool) → prefix_len (beq true) (before (replicate k false ++ (true ∷ r))) ≡ k
run-before zero r = refl
run-before (suc k) r = omega (arith, run-before k r)

pub front-of_before : (s : Bool) (B k : ℕ) → k < B → prefix_len (beq true) (bits B (shifted_left s B (pos 1) k -ℤ pos 1)) ≡ k
front-of_before s B k h =
    let x = shifted_left s B (pos 1) k in
    let n : bits B (x -ℤ pos 1) ≡ before (bits B x) =
    sym (bits-wrap s B (x -ℤ pos 1)) ∙ ap (bits B) (sym (difference-is s B x (pos 1))) ∙ bits-before s B x (omega (arith, popcount-of_one_bit s B k h)) in
    ap (prefix_len (beq true)) (n ∙ ap before (bits-one_bit s B k h)) ∙ run-before k (take (B - k - 1) (replicate (B - 1) false))

pub tail-of_before : (B k : ℕ) → k < B → suffix_len (beq false) (bits B (shifted_left false B (pos 1) k -ℤ pos 1)) + k ≡ B
tail-of_before B zero h =
    ap (λ (z : ℤ). suffix_len (beq false) (bits B (z -ℤ pos 1)) + 0) (left-of_one B 0 h) ∙ omega (arith, tail-of_zero B)
tail-of_before B (suc k) h =
    let p = pow-suc 2 k in
    let o = pow_pos k in
    let e : shifted_left false B (pos 1) (suc k) -ℤ pos 1 ≡ pos (2 ^ suc k - 1) = (let l = left-of_one B (suc k) h in omega (arith, ints)) in
    ap (λ (z : ℤ). suffix_len (beq false) (bits B z) + suc k) e ∙ omega (arith, tail-by_power B k (2 ^ suc k - 1) (omega arith) (omega arith) (omega arith))

-- ---- the parts above a place and below it

module _ (B k : ℕ) (x : ℤ) (place : k < B) (range : InRange false B x) where
  mask : shifted_left false B (pos 1) k -ℤ pos 1 ≡ pos (2 ^ k - 1)
  mask = let e = left-of_one B k place in let o = pow_pos k in omega (arith, ints)

  upper : shifted_left false B (shifted_right false B x k) k ≡ bitwise_and false B x (bitwise_not false B (shifted_left false B (pos 1) k -ℤ pos 1))
  upper =
      let o = pow_pos k in
      let b = pow_below k B place in
      let r = unsigned-in_range B (2 ^ k - 1) (omega arith) in
      let n = not-unsigned false B (pos (2 ^ k - 1)) _ refl (omega arith) r (not-is false B (pos (2 ^ k - 1))) in
      let e : bitwise_not false B (pos (2 ^ k - 1)) ≡ pos (2 ^ B) -ℤ pos (2 ^ k) = omega (arith, ints) in
      right_left-numeral B x k (omega arith) (omega arith) ∙ ap (bitwise_and false B x) (sym e) ∙ ap (λ (z : ℤ). bitwise_and false B x (bitwise_not false B z)) (sym mask)

  pub upper-by_mask : shifted_left false B (shifted_right false B x k) k ≡ x -ℤ bitwise_and false B x (shifted_left false B (pos 1) k -ℤ pos 1)
  upper-by_mask = upper ∙ and-by_complement false B x (shifted_left false B (pos 1) k -ℤ pos 1) (omega arith) range

  pub parts-joined : (m : ℤ) → m ≡ shifted_left false B (pos 1) k -ℤ pos 1
      → bitwise_or false B (shifted_left false B (shifted_right false B x k) k) (bitwise_and false B x m) ≡ x
  parts-joined m e =
      ap₂ (bitwise_or false B) upper (ap (bitwise_and false B x) e) ∙ bitwise_or-commutes false B _ _
      ∙ or-of_parts false B x (shifted_left false B (pos 1) k -ℤ pos 1) (omega arith) range

-- two of these numbers, and the parts above a place and below it
pub ruleset one_bits = (Decides-int_eq, one_bit-some, xor-unchanged, one_bits-compared, one_bits-ordered, one-turned, upper-by_mask, parts-joined)

-- their counts
pub ruleset one_bit_counts = (popcount-of_one_bit, front-of_one_bit, tail-of_one_bit, popcount-before_one_bit, front-of_before, tail-of_before)
