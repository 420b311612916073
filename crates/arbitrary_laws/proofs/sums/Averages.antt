-- The mean of two numbers from their bits, signed and unsigned, in which no sum overflows. Rounded down, it is the
-- shared bits plus half of the bits that only one has. Rounded up, it is the bits of either, minus that half.
-- Callers name the set `averages`.
use Rattle.std.specs.Prelude.{Bool, pos, ℕ, ℤ, ◌*ℤ◌, ◌+ℤ◌, ◌-ℤ◌, ◌≡◌, ◌≤ℤ◌, ◌≤◌}
use Rattle.std.proofs.Common.{arith, refl, ◌∙◌}
use Rattle.std.proofs.lemmas.Int.{ints}
use Rattle.arbitrary_base.specs.Operation.{bitwise_and, bitwise_or, bitwise_xor, shifted_right, wrapped_difference, wrapped_sum}
use Rattle.arbitrary_base.specs.Range.{InRange}
use Rattle.arbitrary_base.proofs.modular.Residue.{wrap-of_in_range}
use Rattle.arbitrary_base.proofs.operations.BitsAndSums.{xor-in_range}
use Rattle.arbitrary_base.proofs.operations.Definition.{difference-is, sum-is}
use Rattle.arbitrary_base.proofs.operations.Shift.{shifted_right-is_shr}
use Rattle.arbitrary_base.proofs.operations.ShiftAsProduct.{int_shr-high, int_shr-low}
use Rattle.arbitrary_laws.proofs.masks.NumberUnderMask.{or-by_and, xor-by_and}

-- r is half of what x and y share no bit of, rounded down, where they share those of a
record Half (a x y r : ℤ) : Type 0 where
  low : (pos 2 *ℤ r) ≤ℤ (x +ℤ y -ℤ a -ℤ a)
  high : (x +ℤ y -ℤ a -ℤ a) ≤ℤ (pos 2 *ℤ r +ℤ pos 1)

-- m is the mean, rounded down
abbrev pub MeanDown : ℤ → ℤ → ℤ → Type 0
MeanDown x y m = ((pos 2 *ℤ m) ≤ℤ (x +ℤ y)) × ((x +ℤ y) ≤ℤ (pos 2 *ℤ m +ℤ pos 1))

abbrev pub MeanUp : ℤ → ℤ → ℤ → Type 0
MeanUp x y m = ((x +ℤ y) ≤ℤ (pos 2 *ℤ m)) × ((pos 2 *ℤ m) ≤ℤ (x +ℤ y +ℤ pos 1))

module _ (s : Bool) (B : ℕ) (x y : ℤ) (h : 1 ≤ B) (f : InRange s B x) (g : InRange s B y) where
  half : Half (bitwise_and s B x y) x y (shifted_right s B (bitwise_xor s B x y) 1)
  half =
      let z = xor-by_and s B x y h f g in
      let e = shifted_right-is_shr s B (bitwise_xor s B x y) 1 h h (xor-in_range s B x y h) in
      let l = int_shr-low 1 (bitwise_xor s B x y) in
      let u = int_shr-high 1 (bitwise_xor s B x y) in
      record { low = omega (arith, ints); high = omega (arith, ints) }

  down-in_range : InRange s B (bitwise_and s B x y +ℤ shifted_right s B (bitwise_xor s B x y) 1)
  down-in_range =
      let l = half.low in
      let u = half.high in
      let a = f.low in
      let b = f.high in
      let c = g.low in
      let d = g.high in
      record { low = omega (arith, ints); high = omega (arith, ints) }

  up-in_range : InRange s B (bitwise_or s B x y -ℤ shifted_right s B (bitwise_xor s B x y) 1)
  up-in_range =
      let e = or-by_and s B x y h f g in
      let l = half.low in
      let u = half.high in
      let a = f.low in
      let b = f.high in
      let c = g.low in
      let d = g.high in
      record { low = omega (arith, ints); high = omega (arith, ints) }

  -- an exact sum. The first part says nothing: it shows the search the sum
  pub mean-down : let m = bitwise_and s B x y +ℤ shifted_right s B (bitwise_xor s B x y) 1 in (m ≡ m) × (InRange s B m) × (MeanDown x y m)
  mean-down = let l = half.low in let u = half.high in (refl, down-in_range, (omega (arith, ints), omega (arith, ints)))

  pub mean-up : let m = bitwise_or s B x y -ℤ shifted_right s B (bitwise_xor s B x y) 1 in (m ≡ m) × (InRange s B m) × (MeanUp x y m)
  mean-up =
      let o = or-by_and s B x y h f g in
      let l = half.low in
      let u = half.high in
      (refl, up-in_range, (omega (arith, ints), omega (arith, ints)))

  -- a sum that would wrap, and doesn't
  pub wrapped_mean-down : let m = wrapped_sum s B (bitwise_and s B x y) (shifted_right s B (bitwise_xor s B x y) 1) in
      (m ≡ bitwise_and s B x y +ℤ shifted_right s B (bitwise_xor s B x y) 1) × (MeanDown x y m)
  wrapped_mean-down =
      let e = sum-is s B (bitwise_and s B x y) (shifted_right s B (bitwise_xor s B x y) 1) ∙ wrap-of_in_range s B _ h down-in_range in
      let l = half.low in
      let u = half.high in
      (e, (omega (arith, ints), omega (arith, ints)))

  pub wrapped_mean-up : let m = wrapped_difference s B (bitwise_or s B x y) (shifted_right s B (bitwise_xor s B x y) 1) in
      (m ≡ bitwise_or s B x y -ℤ shifted_right s B (bitwise_xor s B x y) 1) × (MeanUp x y m)
  wrapped_mean-up =
      let e = difference-is s B (bitwise_or s B x y) (shifted_right s B (bitwise_xor s B x y) 1) ∙ wrap-of_in_range s B _ h up-in_range in
      let o = or-by_and s B x y h f g in
      let l = half.low in
      let u = half.high in
      (e, (omega (arith, ints), omega (arith, ints)))

pub ruleset averages = (mean-down, mean-up, wrapped_mean-down, wrapped_mean-up)
