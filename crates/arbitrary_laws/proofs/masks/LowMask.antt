-- The mask of the k lowest bits of a primitive, where k is variable, such as `(1 << k) - 1` or `!(u32::MAX << k)`:
-- the bits that it keeps, and those that its complement keeps. Callers name the set `low_masks`.
use Rattle.std.specs.Prelude.{◌≡◌, ℕ, suc, ◌+◌, ◌-◌, ◌*◌, ◌/◌, ◌%◌, ◌^◌, ◌≤◌, ◌<◌}
use Rattle.std.specs.Int.Bits.{bit_and, bit_or}
use Rattle.std.proofs.Common.{ap, ap₂, ◌∙◌, arith, div-add-mod', mod-eq_of_lt, mod-lt}
use Rattle.std.proofs.Math.Nat.{div-eq_of_lt}
use Rattle.std.proofs.lemmas.Bool.Decides.{Decides-eqb, Decides-int_eq}
use Rattle.std.proofs.lemmas.Grind.{low_zeros, one_shifted}
use Rattle.std.proofs.lemmas.Nat.{and_mask, div-mul-add, mod-mul-add, or_comm, or_lt, or_shifted, pow_below, pow_pos}
use Rattle.std.proofs.lemmas.Nat.Bits.{and_high_mask, ones_shl, ones_shr}

-- `suc m` is 2 to the type's width, so that `1 * 2 ^ k % suc m` is `1 << k`, and m is the greatest number
module _ (n k m : ℕ) (wide : suc m ≡ 2 ^ low_zeros 128 (suc m)) (place : k < low_zeros 128 (suc m)) where
  abbrev w : ℕ
  w = low_zeros 128 (suc m)

  abbrev mask : ℕ
  mask = 1 * 2 ^ k % suc m - 1

  known : mask ≡ 2 ^ k - 1
  known = let s = one_shifted k m wide place in ap (λ (a : ℕ). a - 1) s.0

  low : bit_and n mask ≡ n % 2 ^ k
  low = ap (bit_and n) known ∙ and_mask n k

  small : n % 2 ^ k < 2 ^ k
  small = mod-lt n (pow_pos k)

  pub low_kept : (bit_and n (1 * 2 ^ k % suc m - 1) ≡ n % 2 ^ k) × (n % 2 ^ k < 2 ^ k) × (n % 2 ^ k % 2 ^ k ≡ n % 2 ^ k) × (n % 2 ^ k / 2 ^ k ≡ 0)
  low_kept = (low, small, mod-eq_of_lt small, div-eq_of_lt small)

  module _ (t : ℕ) (top : t ≡ m) where
    greatest : t ≡ 2 ^ w - 1
    greatest = omega (arith, top, wide)

    below : 2 ^ k ≤ 2 ^ w
    below = let b = pow_below k w place in omega arith

    raised : t * 2 ^ k % suc m ≡ 2 ^ w - 2 ^ k
    raised = ap₂ (λ (a b : ℕ). a * 2 ^ k % b) greatest wide ∙ ones_shl w k (omega (arith, place))

    -- `n & !(max << k)`, and `n & (max >> k)`
    pub low_kept_by_not : bit_and n (t - t * 2 ^ k % suc m) ≡ n % 2 ^ k
    low_kept_by_not =
        let p = pow_pos k in
        let s : t - t * 2 ^ k % suc m ≡ 2 ^ k - 1 = omega (arith, greatest, raised, below) in
        ap (bit_and n) s ∙ and_mask n k

    pub low_kept_by_right : bit_and n (t / 2 ^ k) ≡ n % 2 ^ (low_zeros 128 (suc m) - k)
    low_kept_by_right = ap (λ (a : ℕ). bit_and n (a / 2 ^ k)) greatest ∙ ap (bit_and n) (ones_shr w k (omega (arith, place))) ∙ and_mask n (w - k)

    module _ (fits : n < suc m) where
      in_range : n < 2 ^ w
      in_range = omega (arith, fits, wide)

      -- `n & (max << k)`, and `n & !((1 << k) - 1)`
      pub high_kept : bit_and n (t * 2 ^ k % suc m) ≡ n / 2 ^ k * 2 ^ k
      high_kept = ap (bit_and n) raised ∙ and_high_mask w k (omega (arith, place)) n in_range

      pub high_kept_by_not : bit_and n (t - (1 * 2 ^ k % suc m - 1)) ≡ n / 2 ^ k * 2 ^ k
      high_kept_by_not =
          let p = pow_pos k in
          let s : t - mask ≡ 2 ^ w - 2 ^ k = omega (arith, greatest, known, p) in
          ap (bit_and n) s ∙ and_high_mask w k (omega (arith, place)) n in_range

      -- what is written below the place
      module _ (b : ℕ) (short : b < 2 ^ k) where
        beside : bit_or (bit_and n (t - mask)) b ≡ n / 2 ^ k * 2 ^ k + b
        beside = ap (λ (a : ℕ). bit_or a b) high_kept_by_not ∙ or_shifted (n / 2 ^ k) k b short

        still : bit_or (bit_and n (t - mask)) b < suc m
        still =
            let d = div-add-mod' n (2 ^ k) in
            let l = or_lt w (bit_and n (t - mask)) b (omega (arith, high_kept_by_not, d, in_range)) (omega (arith, short, below)) in
            omega (arith, l, wide)

        pub or_below_place : (bit_or (bit_and n (t - (1 * 2 ^ k % suc m - 1))) b ≡ n / 2 ^ k * 2 ^ k + b)
            × (bit_or (bit_and n (t - (1 * 2 ^ k % suc m - 1))) b < suc m) × (bit_or (bit_and n (t - (1 * 2 ^ k % suc m - 1))) b % 2 ^ k ≡ b) × (bit_or (bit_and n (t - (1 * 2 ^ k % suc m - 1))) b / 2 ^ k ≡ n / 2 ^ k)
        or_below_place =
            (beside, still, ap (λ (a : ℕ). a % 2 ^ k) beside ∙ mod-mul-add (n / 2 ^ k) (2 ^ k) b short, ap (λ (a : ℕ). a / 2 ^ k) beside ∙ div-mul-add (n / 2 ^ k) (2 ^ k) b short)

        pub or_above_place : bit_or b (bit_and n (t - (1 * 2 ^ k % suc m - 1))) ≡ bit_or (bit_and n (t - (1 * 2 ^ k % suc m - 1))) b
        or_above_place = or_comm b (bit_and n (t - mask))

pub ruleset low_masks = (Decides-eqb, Decides-int_eq, one_shifted, low_kept, low_kept_by_not, low_kept_by_right, high_kept, high_kept_by_not, or_below_place, or_above_place)
