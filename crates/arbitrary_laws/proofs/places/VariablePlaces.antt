-- Bits at variable places: one set and another cleared, the lowest of a rotated number, and a shifted number that
-- is reversed and converted. Callers name the set `variable_places`.
use Rattle.std.specs.Prelude.{Bool, List, [], drop, false, length, not, pos, replicate, suc, take, true, zero, ℕ, ℤ, ◌++◌, ◌<◌, ◌^◌, ◌∷◌, ◌≡◌, ◌≢◌, ◌≤◌}
use Rattle.std.proofs.Common.{ap, ap₂, arith, length-drop, refl, subst, sym, ◌∙◌}
use Rattle.std.proofs.lemmas.Bool.Decides.{Decides-int_eq}
use Rattle.std.proofs.lemmas.Int.{ints}
use Rattle.arbitrary_base.specs.BitList.{bits, bits_and, fill, shr}
use Rattle.arbitrary_base.specs.Operation.{bitwise_and, bitwise_not, bitwise_or, bitwise_xor, reversed, rotated_right, shifted_left, shifted_right}
use Rattle.arbitrary_base.specs.Range.{InRange}
use Rattle.arbitrary_base.specs.Residue.{wrap}
use Rattle.arbitrary_base.proofs.bit_lists.Movement.{length-rotr, length-shr, rotr}
use Rattle.arbitrary_base.proofs.bit_lists.Pointwise.{and-zeros, cons}
use Rattle.arbitrary_base.proofs.bit_lists.UnsignedNumber.{length-bits}
use Rattle.arbitrary_base.proofs.operations.Bitwise.{bitwise_and-commutes}
use Rattle.arbitrary_base.proofs.operations.Definition.{and-is, bits-right, by-bits}
use Rattle.arbitrary_base.proofs.operations.RotateAndReverse.{reversed-shifted_left}
use Rattle.arbitrary_base.proofs.operations.Shift.{shifted_left-is_product}
use Rattle.arbitrary_base.proofs.operations.WrappedRing.{product-in_range}
use Rattle.arbitrary_laws.proofs.bits.Identities.{and-distributes_or, and-distributes_xor}
use Rattle.arbitrary_laws.proofs.counts.CountBounds.{bits-one}
use Rattle.arbitrary_laws.proofs.masks.NumberUnderMask.{and-by_complement}
use Rattle.arbitrary_laws.proofs.places.BitPlaces.{bit-elsewhere, clear-by_mask}
use Rattle.arbitrary_laws.proofs.rotations.RotatedLists.{bits-rotr}
use Rattle.arbitrary_laws.proofs.shifts.Truncations.{left-truncated, reversal-converted}

-- ---- one bit set or turned over, and another cleared, in either order

module _ (s : Bool) (B i j : ℕ) (g : i < B) (h : j < B) (apart : i ≢ j) where
  one-kept : bitwise_and s B (shifted_left s B (pos 1) i) (bitwise_not s B (shifted_left s B (pos 1) j)) ≡ shifted_left s B (pos 1) i
  one-kept =
      let a = shifted_left s B (pos 1) i in
      let b = shifted_left s B (pos 1) j in
      let e = clear-by_mask s B j a h ∙ ap not (bit-elsewhere s B i g j (λ d. apart (sym d))) in
      let n : bitwise_and s B a b ≡ pos 0 = (Decides-int_eq (bitwise_and s B a b) (pos 0)).0 e in
      let r = product-in_range s B (pos 1) (pos (2 ^ i)) (omega arith) in
      let f : InRange s B a = subst (InRange s B) (sym (shifted_left-is_product s B (pos 1) i (omega arith) (omega arith))) r in
      let c = and-by_complement s B a b (omega arith) f in
      omega (arith, ints)

  module _ (x : ℤ) where
    pub set-beside_cleared : bitwise_and s B (bitwise_or s B x (shifted_left s B (pos 1) i)) (bitwise_not s B (shifted_left s B (pos 1) j))
        ≡ bitwise_or s B (bitwise_and s B x (bitwise_not s B (shifted_left s B (pos 1) j))) (shifted_left s B (pos 1) i)
    set-beside_cleared =
        let m = bitwise_not s B (shifted_left s B (pos 1) j) in
        bitwise_and-commutes s B _ m ∙ and-distributes_or s B m x (shifted_left s B (pos 1) i)
        ∙ ap₂ (bitwise_or s B) (bitwise_and-commutes s B m x) (bitwise_and-commutes s B m _ ∙ one-kept)

    pub turned-beside_cleared : bitwise_and s B (bitwise_xor s B x (shifted_left s B (pos 1) i)) (bitwise_not s B (shifted_left s B (pos 1) j))
        ≡ bitwise_xor s B (bitwise_and s B x (bitwise_not s B (shifted_left s B (pos 1) j))) (shifted_left s B (pos 1) i)
    turned-beside_cleared =
        let m = bitwise_not s B (shifted_left s B (pos 1) j) in
        bitwise_and-commutes s B _ m ∙ and-distributes_xor s B m x (shifted_left s B (pos 1) i)
        ∙ ap₂ (bitwise_xor s B) (bitwise_and-commutes s B m x) (bitwise_and-commutes s B m _ ∙ one-kept)

-- ---- the lowest bit of a number that is turned to the right

lowest-alone : (p q : List Bool) (n : ℕ) → length p ≡ n → length q ≡ n → bits_and p (replicate n false) ≡ bits_and q (replicate n false)
lowest-alone p q n d e =
    ap (λ (i : ℕ). bits_and p (replicate i false)) (sym d) ∙ and-zeros p ∙ ap (λ (i : ℕ). replicate i false) (d ∙ sym e)
    ∙ sym (ap (λ (i : ℕ). bits_and q (replicate i false)) (sym e) ∙ and-zeros q)

same-lowest : (m p q : List Bool) (n : ℕ) → 1 ≤ length m → length (m ++ p) ≡ suc n → length (m ++ q) ≡ suc n
    → bits_and (m ++ p) (true ∷ replicate n false) ≡ bits_and (m ++ q) (true ∷ replicate n false)
same-lowest [] p q n h d e = absurd (omega arith)
same-lowest (a ∷ m) p q n h d e = cons refl (lowest-alone (m ++ p) (m ++ q) n (omega arith) (omega arith))

pub low-of_turned_right : (s : Bool) (B k : ℕ) (x : ℤ) → k < B → bitwise_and s B (rotated_right s B x k) (pos 1) ≡ bitwise_and s B (shifted_right s B x k) (pos 1)
low-of_turned_right s zero k x h = absurd (omega arith)
low-of_turned_right s (suc n) k x h =
    let l = bits (suc n) x in
    let w : length l ≡ suc n = length-bits (suc n) x in
    let d : 1 ≤ length (drop k l) = omega (arith, length-drop k l) in
    let f = fill s l in
    let e : bits_and (rotr l k) (bits (suc n) (pos 1)) ≡ bits_and (shr l k f) (bits (suc n) (pos 1)) =
    ap (bits_and (rotr l k)) (bits-one n)
    ∙ same-lowest (drop k l) (take k l) (replicate k f) n d (length-rotr l k ∙ w) (length-shr l k f (omega arith) ∙ w)
    ∙ sym (ap (bits_and (shr l k f)) (bits-one n)) in
    by-bits s _ _ _ _ (and-is s (suc n) _ (pos 1)) (and-is s (suc n) _ (pos 1))
    (ap (λ (p : List Bool). bits_and p (bits (suc n) (pos 1))) (bits-rotr s (suc n) x k) ∙ e
    ∙ sym (ap (λ (p : List Bool). bits_and p (bits (suc n) (pos 1))) (bits-right s (suc n) x k (omega arith))))

-- ---- a shifted number, reversed and converted

pub reversed_left-converted : (t : Bool) (B k : ℕ) (x : ℤ) → k < B
    → wrap false B (reversed t B (shifted_left t B x k)) ≡ shifted_right false B (wrap false B (reversed t B x)) k
reversed_left-converted t B k x h =
    reversal-converted false t B k (shifted_left t B x k) (omega arith) ∙ ap (reversed false B) (left-truncated false t B B k x (omega arith) h)
    ∙ reversed-shifted_left B (wrap false B x) k (omega arith)
    ∙ ap (λ (z : ℤ). shifted_right false B z k) (sym (reversal-converted false t B k x (omega arith)))

pub ruleset variable_places = (Decides-int_eq, set-beside_cleared, turned-beside_cleared, low-of_turned_right, reversed_left-converted)
