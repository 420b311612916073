-- The lowest one of a primitive and the count of the zeros below it, as in
-- `x & x.wrapping_neg() == 1 << x.trailing_zeros()`.
use Rattle.std.specs.Prelude.{◌≡◌, ℕ, zero, suc, ◌+◌, ◌-◌, ◌*◌, ◌/◌, ◌%◌, ◌^◌, ◌<◌}
use Rattle.std.specs.Int.Bits.{bit_and}
use lib.Count.{count_trailing_zeros, under}
use Rattle.std.proofs.Common.{refl, sym, ap, ◌∙◌, arith, inl, inr}
use Rattle.std.proofs.lemmas.Bool.{cases_lt}
use Rattle.std.proofs.lemmas.Nat.{and_comm, and-not, pow_below}
use Rattle.arbitrary_laws.proofs.words.LowestOne.{and_before, low_bit, low_bit-of_odd_times, next, odd_times, twice}

some_half : (k n : ℕ) → n < 2 ^ suc k → n / 2 < 2 ^ k
some_half k n l = omega (arith, next k)

module _ (k n t : ℕ) where
  Odd : ℕ → ℕ → Type 0
  Odd w j = (r : ℕ) × ((n ≡ r * 2 ^ suc j + 2 ^ j) × (j < w))

  even : (r : ℕ) → n % 2 ≡ 0 → n / 2 ≡ r * 2 ^ suc t + 2 ^ t → t < k → Odd (suc k) (under (n % 2) t)
  unfolding Odd
  even r e f l =
      let u : under (n % 2) t ≡ suc t = ap (λ (i : ℕ). under i t) e in
      let x : n ≡ r * 2 ^ suc (suc t) + 2 ^ suc t = omega (arith, e, f, next t, next (suc t), twice r (2 ^ suc t), ap (λ (i : ℕ). r * i) (next (suc t))) in
      (r, (x ∙ sym (ap (λ (i : ℕ). r * 2 ^ suc i + 2 ^ i) u), omega (arith, u, l)))

  odd : n % 2 ≡ 1 → Odd (suc k) (under (n % 2) t)
  unfolding Odd
  odd e =
      let u : under (n % 2) t ≡ 0 = ap (λ (i : ℕ). under i t) e in
      let x : n ≡ n / 2 * 2 ^ suc 0 + 2 ^ 0 = omega (arith, e) in
      (n / 2, (x ∙ sym (ap (λ (i : ℕ). n / 2 * 2 ^ suc i + 2 ^ i) u), omega (arith, u)))

odd_part : (k n : ℕ) → 0 < n → n < 2 ^ k → Odd k n (count_trailing_zeros k n) k (count_trailing_zeros k n)
unfolding count_trailing_zeros Odd
odd_part zero n p l = absurd (omega arith)
odd_part (suc k) n p l = elim (cases_lt (n % 2) 1) [
  | inl e ↦ let h = odd_part k (n / 2) (omega arith) (some_half k n l) in even k n (count_trailing_zeros k (n / 2)) h.0 (omega arith) h.1.0 h.1.1
  | inr e ↦ odd k n (count_trailing_zeros k (n / 2)) (omega arith)
]

lowest_is : (w x : ℕ) → 0 < x → x < 2 ^ w → low_bit x ≡ 2 ^ count_trailing_zeros w x
unfolding Odd
lowest_is w x p l = let h = odd_part w x p l in ap low_bit h.1.0 ∙ low_bit-of_odd_times (count_trailing_zeros w x) h.0

negated : (w x : ℕ) → 0 < x → x < 2 ^ w → bit_and x (2 ^ w - x) ≡ low_bit x
negated w x p l =
    let h = odd_times (suc x) x (omega arith) p in
    let n = and-not w (x - 1) x (omega arith) l in
    let e : 2 ^ w - 1 - (x - 1) ≡ 2 ^ w - x = omega arith in
    let b : bit_and x (x - 1) ≡ h.1 * 2 ^ suc h.0 = ap (λ (i : ℕ). bit_and i (i - 1)) h.2 ∙ and_before h.0 h.1 in
    let i : low_bit x ≡ 2 ^ h.0 = ap low_bit h.2 ∙ low_bit-of_odd_times h.0 h.1 in
    omega (arith, n, b, i, h.2, and_comm x (2 ^ w - x), and_comm (x - 1) x, ap (λ (j : ℕ). bit_and j x) e)

-- by the count of the zeros below it
pub lowest_by_zeros : (w x : ℕ) → 0 < x → x < 2 ^ w → (count_trailing_zeros w x ≡ count_trailing_zeros w x)
    × ((count_trailing_zeros w x < w) × ((2 ^ count_trailing_zeros w x < 2 ^ w) × (bit_and x (2 ^ w - x) ≡ 2 ^ count_trailing_zeros w x)))
unfolding Odd
lowest_by_zeros w x p l =
    let h = odd_part w x p l in
    (refl, (h.1.1, (pow_below (count_trailing_zeros w x) w h.1.1, negated w x p l ∙ lowest_is w x p l)))
