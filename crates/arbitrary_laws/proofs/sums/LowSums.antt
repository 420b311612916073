-- A shifted number and one below its lowest place share no bit, so `|` and `^` are their sum. Callers name the set
-- `low_sums`.
use Rattle.std.specs.Int.{int_shr}
use Rattle.std.specs.Prelude.{Bool, negsuc, pos, ℕ, ℤ, ◌+ℤ◌, ◌/◌, ◌<ℤ◌, ◌<◌, ◌^◌, ◌≡◌, ◌≤ℤ◌, ◌≤◌}
use Rattle.std.proofs.Common.{ap, arith, refl, sym, ◌∙◌}
use Rattle.std.proofs.Math.Nat.{div-eq_of_lt}
use Rattle.std.proofs.lemmas.Bool.Decides.{Decides-int_eq}
use Rattle.std.proofs.lemmas.Int.{ints}
use Rattle.arbitrary_base.specs.Operation.{bitwise_and, bitwise_or, bitwise_xor, shifted_left, shifted_right, wrapped_difference, wrapped_sum}
use Rattle.arbitrary_base.specs.Range.{InRange}
use Rattle.arbitrary_base.proofs.operations.BitsAndSums.{sum-of_disjoint}
use Rattle.arbitrary_base.proofs.operations.Bitwise.{bitwise_and-commutes}
use Rattle.arbitrary_base.proofs.operations.Shift.{shifted_left-zero, shifted_right-is_shr}
use Rattle.arbitrary_laws.proofs.bits.Identities.{bitwise_and-associates, bitwise_and-zero}
use Rattle.arbitrary_laws.proofs.masks.NumberUnderMask.{or-by_and, xor-by_and}
use Rattle.arbitrary_laws.proofs.masks.VariableMasks.{left-in_range, low-of_left, low-wrapped}
use Rattle.arbitrary_laws.proofs.sums.Ring.{wrapped_difference-zero}

module _ (s : Bool) (B : ℕ) (x y : ℤ) (k : ℕ) (place : k < B) (f : InRange s B y) (l : pos 0 ≤ℤ y) (u : y <ℤ pos (2 ^ k)) where
  some : 1 ≤ B
  some = omega arith

  none-above : (z : ℤ) → z ≡ y → shifted_right s B y k ≡ pos 0
  none-above (negsuc n) e = absurd (omega (arith, ints))
  none-above (pos n) e =
      let d : n / 2 ^ k ≡ 0 = div-eq_of_lt (omega (arith, ints)) in
      shifted_right-is_shr s B y k some (omega arith) f ∙ (ap (λ (w : ℤ). int_shr w k) (sym e) ∙ ap pos d)

  -- the mask of the k lowest bits keeps y
  kept : bitwise_and s B y (wrapped_difference s B (shifted_left s B (pos 1) k) (pos 1)) ≡ y
  kept =
      sym (low-wrapped s B y k place f)
      ∙ ap (wrapped_difference s B y) (ap (λ (z : ℤ). shifted_left s B z k) (none-above y refl) ∙ shifted_left-zero s B k some (omega arith))
      ∙ wrapped_difference-zero s B y some f

  apart : bitwise_and s B (shifted_left s B x k) y ≡ pos 0
  apart =
      let m = wrapped_difference s B (shifted_left s B (pos 1) k) (pos 1) in
      ap (bitwise_and s B (shifted_left s B x k)) (sym kept ∙ bitwise_and-commutes s B y m)
      ∙ sym (bitwise_and-associates s B (shifted_left s B x k) m y)
      ∙ ap (λ (z : ℤ). bitwise_and s B z y) (low-of_left s B x k k (omega arith) place)
      ∙ bitwise_and-commutes s B (pos 0) y ∙ bitwise_and-zero s B y some

  or-exact : bitwise_or s B (shifted_left s B x k) y ≡ shifted_left s B x k +ℤ y
  or-exact = let a = apart in let o = or-by_and s B (shifted_left s B x k) y some (left-in_range s B x k some (omega arith)) f in omega (arith, ints)

  pub or-above_low : (bitwise_or s B (shifted_left s B x k) y ≡ shifted_left s B x k +ℤ y)
      × (bitwise_or s B (shifted_left s B x k) y ≡ wrapped_sum s B (shifted_left s B x k) y)
  or-above_low = (or-exact, sym (sum-of_disjoint s B (shifted_left s B x k) y some apart))

  pub xor-above_low : (bitwise_xor s B (shifted_left s B x k) y ≡ shifted_left s B x k +ℤ y)
      × (bitwise_xor s B (shifted_left s B x k) y ≡ wrapped_sum s B (shifted_left s B x k) y)
  xor-above_low =
      let a = apart in
      let o = or-exact in
      let e = xor-by_and s B (shifted_left s B x k) y some (left-in_range s B x k some (omega arith)) f in
      let w = or-above_low.1 in
      (omega (arith, ints), omega (arith, ints))

pub ruleset low_sums = (Decides-int_eq, or-above_low, xor-above_low)
