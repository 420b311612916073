-- Two shifts of one number: left and back, as the bits that a narrower type keeps; joined, as a rotation; and
-- right by more places, which is at most the other.
use Rattle.std.specs.Int.{int_shr}
use Rattle.std.specs.Ordering.{int_cmp, is_ge, is_le}
use Rattle.std.specs.Prelude.{Bool, List, drop, false, length, negsuc, pos, replicate, take, true, ℕ, ℤ, ◌&&◌, ◌*ℤ◌, ◌*◌, ◌++◌, ◌+◌, ◌-◌, ◌/◌, ◌^◌, ◌≡◌, ◌≤ℤ◌, ◌≤◌}
use Rattle.std.proofs.Common.{ap, ap₂, arith, div-le_self, length-drop, subst, sym, ◌∙◌}
use Rattle.std.proofs.Math.Nat.{div-eq_of_lt-le}
use Rattle.std.proofs.lemmas.Int.{ints}
use Rattle.std.proofs.lemmas.List.{length-replicate, length-take-le, replicate-append-replicate}
use Rattle.std.proofs.lemmas.Nat.{pow_pos}
use Rattle.arbitrary_base.specs.BitList.{bits, bits_and, shl, shr}
use Rattle.arbitrary_base.specs.Operation.{bitwise_and, bitwise_xor, rotated_left, shifted_left, shifted_right, wrapped_sum}
use Rattle.arbitrary_base.specs.Range.{InRange}
use Rattle.arbitrary_base.specs.Residue.{Congruent, wrap}
use Rattle.arbitrary_base.proofs.bit_lists.Pointwise.{and-comm, and-zeros, append-pointwise}
use Rattle.arbitrary_base.proofs.bit_lists.SignBit.{InRange-int_shr}
use Rattle.arbitrary_base.proofs.bit_lists.UnsignedNumber.{length-bits}
use Rattle.arbitrary_base.proofs.integers.Ring.{mul_assoc_z, sub-mul_z}
use Rattle.arbitrary_base.proofs.modular.Congruence.{Congruent-by_times, pow_split, times}
use Rattle.arbitrary_base.proofs.modular.Residue.{wrap-congruent, wrap-in_range, wrap-unique}
use Rattle.arbitrary_base.proofs.operations.BitsAndSums.{sum-of_disjoint, xor-in_range}
use Rattle.arbitrary_base.proofs.operations.Definition.{and-is, bits-left, bits-right, by-bits, product-is, zero-is}
use Rattle.arbitrary_base.proofs.operations.Shift.{shifted_left-is_product, shifted_right-is_shr}
use Rattle.arbitrary_laws.proofs.bits.Identities.{bitwise_xor-zero}
use Rattle.arbitrary_laws.proofs.bits.Parts.{or-is_xor}
use Rattle.arbitrary_laws.proofs.orders.Order.{ge-tested, le-tested}
use Rattle.arbitrary_laws.proofs.rotations.RotationsAndReversals.{rotated_left-as_shifts}
use Rattle.arbitrary_laws.proofs.shifts.ShiftAndBack.{shifted_right-twice}

-- ---- left and back

above : (M K n : ℕ) → n + 1 ≤ M → 1 ≤ K → n * K + 1 ≤ M * K
above M K n h g = grind arith

up : (M K n : ℕ) → n ≤ M → n * K ≤ M * K
up M K n h = grind arith

scaled : (s : Bool) (B k : ℕ) (x : ℤ) → k + 1 ≤ B → InRange s (B - k) x → InRange s B (x *ℤ pos (2 ^ k))
scaled false B k (negsuc n) h f = let l = f.low in absurd (omega (arith, ints))
scaled false B k (pos n) h f =
    let t = f.high in
    let e = pow_split k B (omega arith) in
    let q = above (2 ^ (B - k)) (2 ^ k) n (omega (arith, ints)) (pow_pos k) in
    record { low = omega (arith, ints); high = omega (arith, ints) }
scaled true B k (pos n) h f =
    let t = f.high in
    let i : B - k - 1 ≡ B - 1 - k = omega arith in
    let e = pow_split k (B - 1) (omega arith) ∙ ap (λ (m : ℕ). 2 ^ m * 2 ^ k) (sym i) in
    let q = above (2 ^ (B - k - 1)) (2 ^ k) n (omega (arith, ints)) (pow_pos k) in
    record { low = omega (arith, ints); high = omega (arith, ints) }
scaled true B k (negsuc n) h f =
    let t = f.low in
    let p = pow_pos (B - 1) in
    let i : B - k - 1 ≡ B - 1 - k = omega arith in
    let e = pow_split k (B - 1) (omega arith) ∙ ap (λ (m : ℕ). 2 ^ m * 2 ^ k) (sym i) in
    let q = up (2 ^ (B - k - 1)) (2 ^ k) (n + 1) (omega (arith, ints)) in
    record { low = omega (arith, ints); high = omega (arith, ints) }

int_shr-back : (x : ℤ) (k : ℕ) → int_shr (x *ℤ pos (2 ^ k)) k ≡ x
int_shr-back (pos n) k =
    let p = pow_pos k in
    let m : pos n *ℤ pos (2 ^ k) ≡ pos (n * 2 ^ k) = omega (arith, ints) in
    let d : n * 2 ^ k / 2 ^ k ≡ n = div-eq_of_lt-le (2 ^ k) (omega arith) (omega arith) in
    ap (λ (z : ℤ). int_shr z k) m ∙ ap pos d
int_shr-back (negsuc n) k =
    let p = pow_pos k in
    let m : negsuc n *ℤ pos (2 ^ k) ≡ negsuc (n * 2 ^ k + 2 ^ k - 1) = omega (arith, ints) in
    let d : (n * 2 ^ k + 2 ^ k - 1) / 2 ^ k ≡ n = div-eq_of_lt-le (2 ^ k) (omega arith) (omega arith) in
    ap (λ (z : ℤ). int_shr z k) m ∙ ap negsuc d

-- what is shifted out leaves the number of the narrower type
pub left_right-wraps : (s : Bool) (B : ℕ) (x : ℤ) (k : ℕ) → k + 1 ≤ B → shifted_right s B (shifted_left s B x k) k ≡ wrap s (B - k) x
left_right-wraps s B x k h =
    let w = wrap s (B - k) x in
    let c = times (B - k) w x (wrap-congruent s (B - k) x) in
    let f = scaled s B k w h (wrap-in_range s (B - k) x (omega arith)) in
    let p : pos (2 ^ (B - k)) *ℤ pos (2 ^ k) ≡ pos (2 ^ B) = let e = pow_split k B (omega arith) in omega (arith, ints) in
    let d : Congruent B (w *ℤ pos (2 ^ k)) (x *ℤ pos (2 ^ k)) =
    Congruent-by_times _ _ _ c.0
    (sym (sub-mul_z w x (pos (2 ^ k))) ∙ ap (λ (z : ℤ). z *ℤ pos (2 ^ k)) c.1 ∙ mul_assoc_z c.0 (pos (2 ^ (B - k))) (pos (2 ^ k)) ∙ ap (λ (z : ℤ). c.0 *ℤ z) p) in
    let e = shifted_left-is_product s B x k (omega arith) (omega arith) ∙ product-is s B x (pos (2 ^ k)) ∙ wrap-unique s B (x *ℤ pos (2 ^ k)) (w *ℤ pos (2 ^ k)) (omega arith) f d in
    ap (λ (z : ℤ). shifted_right s B z k) e ∙ shifted_right-is_shr s B (w *ℤ pos (2 ^ k)) k (omega arith) (omega arith) f ∙ int_shr-back w k

-- ---- side by side, where no bit is in both

apart : (l : List Bool) (k : ℕ) → k ≤ length l → bits_and (shl l k) (shr l (length l - k) false) ≡ replicate (length l) false
apart l k h =
    let d : length (drop (length l - k) l) ≡ k = length-drop (length l - k) l ∙ (let e : length l - (length l - k) ≡ k = omega arith in e) in
    let t : length (take (length l - k) l) ≡ length l - k = length-take-le (length l - k) l (omega arith) in
    let low : bits_and (replicate k false) (drop (length l - k) l) ≡ replicate k false =
    and-comm (replicate k false) (drop (length l - k) l)
    ∙ ap (λ (n : ℕ). bits_and (drop (length l - k) l) (replicate n false)) (sym d) ∙ and-zeros (drop (length l - k) l)
    ∙ ap (λ (n : ℕ). replicate n false) d in
    let high : bits_and (take (length l - k) l) (replicate (length l - k) false) ≡ replicate (length l - k) false =
    ap (λ (n : ℕ). bits_and (take (length l - k) l) (replicate n false)) (sym t) ∙ and-zeros (take (length l - k) l)
    ∙ ap (λ (n : ℕ). replicate n false) t in
    append-pointwise (λ a b. a && b) (replicate k false) (take (length l - k) l) (drop (length l - k) l) (replicate (length l - k) false) (length-replicate k false ∙ sym d)
    ∙ ap₂ (λ (p q : List Bool). p ++ q) low high
    ∙ replicate-append-replicate k (length l - k) false ∙ ap (λ (n : ℕ). replicate n false) (let e : k + (length l - k) ≡ length l = omega arith in e)

module _ (B : ℕ) (x : ℤ) (k : ℕ) (some : 1 ≤ B) (h : k ≤ B) where
  share_none : bitwise_and false B (shifted_left false B x k) (shifted_right false B x (B - k)) ≡ pos 0
  share_none =
      let n = length-bits B x in
      by-bits _ _ _ _ _ (and-is false B _ _) (zero-is false B some)
      (ap₂ bits_and (bits-left false B x k h) (bits-right false B x (B - k) (omega arith))
      ∙ ap (λ (i : ℕ). bits_and (shl (bits B x) k) (shr (bits B x) (i - k) false)) (sym n)
      ∙ apart (bits B x) k (omega arith) ∙ ap (λ (i : ℕ). replicate i false) n)

  pub rotated_left-as_xor : rotated_left false B x k ≡ bitwise_xor false B (shifted_left false B x k) (shifted_right false B x (B - k))
  rotated_left-as_xor =
      rotated_left-as_shifts B x k h ∙ or-is_xor false B _ _ ∙ ap (bitwise_xor false B _) share_none ∙ bitwise_xor-zero false B _ some (xor-in_range false B _ _ some)

  pub rotated_left-as_sum : rotated_left false B x k ≡ wrapped_sum false B (shifted_left false B x k) (shifted_right false B x (B - k))
  rotated_left-as_sum = rotated_left-as_shifts B x k h ∙ sym (sum-of_disjoint false B _ _ some share_none)

-- ---- right by more places

below : (m : ℕ) (x : ℤ) → pos 0 ≤ℤ x → int_shr x m ≤ℤ x
below m (negsuc n) h = absurd (omega (arith, ints))
below m (pos n) h = let d = div-le_self n (2 ^ m) in omega (arith, ints)

module _ (B : ℕ) (x : ℤ) (j k : ℕ) (some : 1 ≤ B) (g : j ≤ k) (h : k ≤ B) (f : InRange false B x) where
  right-lower : shifted_right false B x k ≤ℤ shifted_right false B x j
  right-lower =
      let e = shifted_right-is_shr false B x j some (omega arith) f in
      let r : InRange false B (shifted_right false B x j) = subst (InRange false B) (sym e) (InRange-int_shr false B j x f) in
      let i : j + (k - j) ≡ k = omega arith in
      let d : shifted_right false B x k ≡ int_shr (shifted_right false B x j) (k - j) =
      ap (shifted_right false B x) (sym i) ∙ sym (shifted_right-twice false B x j (k - j) some (omega arith) f)
      ∙ shifted_right-is_shr false B (shifted_right false B x j) (k - j) some (omega arith) r in
      subst (λ (z : ℤ). z ≤ℤ shifted_right false B x j) (sym d) (below (k - j) (shifted_right false B x j) r.low)

  pub further-at_most : is_le (int_cmp (shifted_right false B x k) (shifted_right false B x j)) ≡ true
  further-at_most = (le-tested _ _).1 right-lower

  pub nearer-at_least : is_ge (int_cmp (shifted_right false B x j) (shifted_right false B x k)) ≡ true
  nearer-at_least = (ge-tested _ _).1 right-lower
