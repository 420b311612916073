-- Rotations to the right with other operations, and two rotations in either order, by constant and variable
-- amounts. Callers name the set `right_rotations`.
use Rattle.std.specs.List.{slice_rotate_right}
use Rattle.std.specs.Prelude.{Bool, List, length, ℕ, ℤ, ◌+◌, ◌-◌, ◌≡◌, ◌≤◌}
use Rattle.std.proofs.Common.{ap, arith, inl, inr, sym, ◌∙◌}
use Rattle.std.proofs.lemmas.Bool.{cases_lt}
use Rattle.std.proofs.lemmas.Bool.Decides.{Decides-int_eq}
use Rattle.arbitrary_base.specs.BitList.{bits}
use Rattle.arbitrary_base.specs.Operation.{rotated_left, rotated_right}
use Rattle.arbitrary_base.proofs.bit_lists.Movement.{length-rotr, rotr}
use Rattle.arbitrary_base.proofs.bit_lists.UnsignedNumber.{length-bits}
use Rattle.arbitrary_base.proofs.operations.Definition.{bits-rotl, by-bits, rotl-is, rotr-is}
use Rattle.arbitrary_base.proofs.operations.RotateAndReverse.{reversed-rotated_left, rotated_right-none}
use Rattle.arbitrary_laws.proofs.counts.Population.{popcount-of_right}
use Rattle.arbitrary_laws.proofs.orders.EqualResults.{right_rotations-equal}
use Rattle.arbitrary_laws.proofs.rotations.RotatedLists.{bits-rotr, rotr-long, rotr-short}
use Rattle.arbitrary_laws.proofs.rotations.RotationsAndReversals.{left-undoes_right, reversed-rotated_right, right-undoes_left, rotated_right-and, rotated_right-highest, rotated_right-minus_one, rotated_right-not, rotated_right-not_zero, rotated_right-or, rotated_right-round, rotated_right-twice, rotated_right-xor, rotated_right-zero}

-- ---- two rotations, in either order

exchanged : (l : List Bool) (a b : ℕ) → a ≤ length l → b ≤ length l → rotr (rotr l a) b ≡ rotr (rotr l b) a
exchanged l a b g h = elim (cases_lt (length l) (a + b)) [
  | inl m ↦ rotr-long l a b g h (omega (arith, m)) ∙ ap (rotr l) (let e : a + b - length l ≡ b + a - length l = omega arith in e) ∙ sym (rotr-long l b a h g (omega (arith, m)))
  | inr m ↦ rotr-short l a b (omega (arith, m)) ∙ ap (rotr l) (let e : a + b ≡ b + a = omega arith in e) ∙ sym (rotr-short l b a (omega (arith, m)))
]

module _ (s : Bool) (B : ℕ) (x : ℤ) (j k : ℕ) (f : j ≤ B) (g : k ≤ B) where
  n : length (bits B x) ≡ B
  n = length-bits B x

  two : (a b : ℕ) → a ≤ B → b ≤ B → rotr (rotr (bits B x) a) b ≡ rotr (rotr (bits B x) b) a
  two a b p q = let e = n in exchanged (bits B x) a b (omega arith) (omega arith)

  pub right_rotations-exchanged : rotated_right s B (rotated_right s B x j) k ≡ rotated_right s B (rotated_right s B x k) j
  right_rotations-exchanged =
      by-bits s _ _ _ _ (rotr-is s B _ k) (rotr-is s B _ j)
      (ap (λ (l : List Bool). rotr l k) (bits-rotr s B x j) ∙ two j k f g ∙ sym (ap (λ (l : List Bool). rotr l j) (bits-rotr s B x k)))

  left-list : (m : List Bool) (i : ℕ) → length m ≡ B → slice_rotate_right m i ≡ rotr m (B - i)
  left-list m i e = ap (λ (c : ℕ). rotr m (c - i)) e

  left-bits : (i : ℕ) → bits B (rotated_left s B x i) ≡ rotr (bits B x) (B - i)
  left-bits i = bits-rotl s B x i ∙ left-list (bits B x) i n

  left-after : (l : List Bool) (i : ℕ) → length l ≡ B → (m : List Bool) → m ≡ l → slice_rotate_right m i ≡ rotr l (B - i)
  left-after l i e m d = ap (λ (m : List Bool). slice_rotate_right m i) d ∙ left-list l i e

  turned : (a : ℕ) → length (rotr (bits B x) a) ≡ B
  turned a = length-rotr (bits B x) a ∙ n

  pub left_rotations-exchanged : rotated_left s B (rotated_left s B x j) k ≡ rotated_left s B (rotated_left s B x k) j
  left_rotations-exchanged =
      by-bits s _ _ _ _ (rotl-is s B _ k) (rotl-is s B _ j)
      (left-after _ k (turned (B - j)) _ (left-bits j) ∙ two (B - j) (B - k) (omega arith) (omega arith)
      ∙ sym (left-after _ j (turned (B - k)) _ (left-bits k)))

  pub rotations-exchanged : rotated_left s B (rotated_right s B x j) k ≡ rotated_right s B (rotated_left s B x k) j
  rotations-exchanged =
      by-bits s _ _ _ _ (rotl-is s B _ k) (rotr-is s B _ j)
      (left-after _ k (turned j) _ (bits-rotr s B x j) ∙ two j (B - k) f (omega arith)
      ∙ sym (ap (λ (l : List Bool). rotr l j) (left-bits k)))

pub ruleset right_rotations = (Decides-int_eq, rotated_right-none, rotated_right-twice, rotated_right-round, rotated_right-zero, rotated_right-highest, rotated_right-minus_one, rotated_right-not_zero, rotated_right-and, rotated_right-or, rotated_right-xor, rotated_right-not, right_rotations-exchanged, left_rotations-exchanged, rotations-exchanged, left-undoes_right, right-undoes_left, reversed-rotated_left, reversed-rotated_right, right_rotations-equal, popcount-of_right)
