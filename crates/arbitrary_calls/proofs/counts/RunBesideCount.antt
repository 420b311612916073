-- A run at one end, compared with the whole count: zeros and ones do not overlap, and one of the two runs at an
-- end is empty.
use Rattle.std.specs.Bool.{beq}
use Rattle.std.specs.List.{count_by, prefix_len, suffix_len}
use Rattle.std.specs.Prelude.{Bool, List, [], false, length, reverse, true, ℕ, ℤ, ◌++◌, ◌+◌, ◌∷◌, ◌≡◌, ◌≤◌}
use Rattle.std.proofs.Common.{ap, arith, refl}
use Rattle.std.proofs.lemmas.List.{length-reverse}
use Rattle.std.proofs.lemmas.List.Sums.{sum_by-append}
use Rattle.arbitrary_base.specs.BitList.{bits}
use Rattle.arbitrary_base.proofs.bit_lists.Count.{popcount-cons}
use Rattle.arbitrary_base.proofs.bit_lists.Movement.{reverse-cons}
use Rattle.arbitrary_base.proofs.bit_lists.UnsignedNumber.{digit, length-bits}

pub append-ones : (l m : List Bool) → count_by (λ b. b) (l ++ m) ≡ count_by (λ b. b) l + count_by (λ b. b) m
append-ones l m = sum_by-append digit l m

front-zeros_ones : (l : List Bool) → prefix_len (beq false) l + count_by (λ b. b) l ≤ length l
front-zeros_ones [] = omega arith
front-zeros_ones (true ∷ l) = omega (arith, popcount-cons true l, at-most l)
  where
    at-most : (l : List Bool) → count_by (λ b. b) l ≤ length l
    at-most [] = omega arith
    at-most (true ∷ l) = omega (arith, popcount-cons true l, at-most l)
    at-most (false ∷ l) = omega (arith, popcount-cons false l, at-most l)
front-zeros_ones (false ∷ l) = omega (arith, popcount-cons false l, front-zeros_ones l)

front-ones_ones : (l : List Bool) → prefix_len (beq true) l ≤ count_by (λ b. b) l
front-ones_ones [] = omega arith
front-ones_ones (true ∷ l) = omega (arith, popcount-cons true l, front-ones_ones l)
front-ones_ones (false ∷ l) = omega arith

reverse-ones : (l : List Bool) → count_by (λ b. b) (reverse l) ≡ count_by (λ b. b) l
reverse-ones [] = refl
reverse-ones (b ∷ l) =
    let e = ap (count_by (λ b. b)) (reverse-cons b l) in
    omega (arith, append-ones (reverse l) (b ∷ []), popcount-cons b l, popcount-cons b [], reverse-ones l)

pub front_zeros-beside_ones : (B : ℕ) (x : ℤ) → prefix_len (beq false) (bits B x) + count_by (λ b. b) (bits B x) ≤ B
front_zeros-beside_ones B x = omega (arith, front-zeros_ones (bits B x), length-bits B x)

pub tail_zeros-beside_ones : (B : ℕ) (x : ℤ) → suffix_len (beq false) (bits B x) + count_by (λ b. b) (bits B x) ≤ B
tail_zeros-beside_ones B x = omega (arith, front-zeros_ones (reverse (bits B x)), reverse-ones (bits B x), length-reverse (bits B x), length-bits B x)

pub front_ones-below_ones : (B : ℕ) (x : ℤ) → prefix_len (beq true) (bits B x) ≤ count_by (λ b. b) (bits B x)
front_ones-below_ones B x = front-ones_ones (bits B x)

pub tail_ones-below_ones : (B : ℕ) (x : ℤ) → suffix_len (beq true) (bits B x) ≤ count_by (λ b. b) (bits B x)
tail_ones-below_ones B x = omega (arith, front-ones_ones (reverse (bits B x)), reverse-ones (bits B x))
