-- The leading zeros of a constant, of a number below a power of two or at least 1, of the greater of two, and of
-- primitives. Callers name the set `leading_zeros`.
use Rattle.std.specs.Bool.{beq}
use Rattle.std.specs.Int.Count.{count_leading_zeros}
use Rattle.std.specs.List.{suffix_len}
use Rattle.std.specs.Prelude.{false, negsuc, pos, suc, zero, ℕ, ℤ, ◌*◌, ◌+◌, ◌-◌, ◌/◌, ◌<◌, ◌^◌, ◌≡◌, ◌≤ℤ◌, ◌≤◌, ◌⊎◌}
use Rattle.std.proofs.Common.{ap, arith, inl, inr, pow-suc, refl, subst, sym, ◌∙◌}
use Rattle.std.proofs.Math.Nat.{mul-le-mul_left}
use Rattle.std.proofs.Math.Pow.{pow_mono}
use Rattle.std.proofs.lemmas.Bool.{cases_lt}
use Rattle.std.proofs.lemmas.Grind.{bit_length}
use Rattle.std.proofs.lemmas.Int.{ints}
use Rattle.std.proofs.lemmas.Nat.{pow-add, pow_pos}
use Rattle.arbitrary_base.specs.BitList.{bits}
use Rattle.arbitrary_base.specs.Range.{InRange}
use Rattle.arbitrary_base.proofs.bit_lists.Count.{tail-fits}
use Rattle.arbitrary_calls.proofs.counts.RunsByDigits.{leading-counted, tail-counted}
use Rattle.arbitrary_calls.proofs.counts.ZeroRunBounds.{leading-high, leading-low, leading-none}

pub tail-of_numeral : (B m : ℕ) → B ≤ 128 → suc m < 2 ^ B → suffix_len (beq false) (bits B (pos (suc m))) + bit_length 128 (suc m) ≡ B
tail-of_numeral B m h g = tail-counted B (suc m) h g

-- where no number has a sign, the greater one has no more zeros at the high end
pub tail-orders : (B : ℕ) (x y : ℤ) → 1 ≤ B → InRange false B x → InRange false B y → x ≤ℤ y
    → suffix_len (beq false) (bits B y) ≤ suffix_len (beq false) (bits B x)
tail-orders B (negsuc n) y h f g o = let l = f.low in absurd (omega (arith, ints))
tail-orders B (pos zero) y h f g o =
    let e = leading-none false B (pos zero) h f refl in
    let b = tail-fits false B y in
    omega arith
tail-orders B (pos (suc n)) y h f g o = by-order (cases_lt (suffix_len (beq false) (bits B (pos (suc n)))) (suffix_len (beq false) (bits B y)))
  where
    by-order : (suffix_len (beq false) (bits B (pos (suc n))) < suffix_len (beq false) (bits B y)) ⊎ (suffix_len (beq false) (bits B y) ≤ suffix_len (beq false) (bits B (pos (suc n))))
        → suffix_len (beq false) (bits B y) ≤ suffix_len (beq false) (bits B (pos (suc n)))
    by-order (inl more) =
        let a = leading-low false B (pos (suc n)) h f (omega (arith, ints)) in
        let b = leading-high false B y h g (omega (arith, ints)) in
        let t = tail-fits false B y in
        let less : B - suffix_len (beq false) (bits B y) ≤ B - 1 - suffix_len (beq false) (bits B (pos (suc n))) = omega arith in
        let p = pow_mono less in
        absurd (omega (arith, ints))
    by-order (inr less) = less

-- ---- with the count of a primitive

pub leading-of_primitive : (W n : ℕ) → W ≤ 128 → n < 2 ^ W → count_leading_zeros W n + 128 ≡ count_leading_zeros 128 n + W
leading-of_primitive W n h g = let p = pow_mono h in omega (arith, leading-counted W n h g, leading-counted 128 n (omega arith) (omega arith))

-- ---- below a power of two, and from one on

longest : (f n : ℕ) → 0 < n → 2 ^ bit_length f n ≤ 2 * n
longest f zero h = absurd (omega arith)
longest zero (suc m) h = omega arith
longest (suc f) (suc m) h = by-half (suc m / 2) refl (longest f (suc m / 2))
  where
    of-zero : (f : ℕ) → bit_length f 0 ≡ 0
    of-zero zero = refl
    of-zero (suc f) = refl

    by-half : (q : ℕ) → q ≡ suc m / 2 → (0 < suc m / 2 → 2 ^ bit_length f (suc m / 2) ≤ 2 * (suc m / 2)) → 2 ^ suc (bit_length f (suc m / 2)) ≤ 2 * suc m
    by-half zero e more = let none : bit_length f (suc m / 2) ≡ 0 = ap (bit_length f) (sym e) ∙ of-zero f in rw none (omega arith)
    by-half (suc q) e more =
        let r = more (omega arith) in
        let p = pow-suc 2 (bit_length f (suc m / 2)) in
        omega arith

length-at_most : (k n : ℕ) → 2 ^ k * bit_length 128 n ≤ n + 2 ^ k * k
length-at_most k zero = omega arith
length-at_most k (suc m) = by-order (cases_lt k (bit_length 128 (suc m)))
  where
    steps : (j : ℕ) → suc j ≤ 2 ^ j
    steps zero = omega arith
    steps (suc j) = let p = pow-suc 2 j in let r = steps j in omega arith

    after : (j : ℕ) → 2 ^ (k + suc j) ≤ 2 * suc m → 2 ^ k * (k + suc j) ≤ suc m + 2 ^ k * k
    after j e =
        let p : 2 ^ (k + suc j) ≡ 2 * (2 ^ k * 2 ^ j) = pow-add 2 k (suc j) ∙ ap (λ (n : ℕ). 2 ^ k * n) (pow-suc 2 j) ∙ grind arith in
        let d : 2 ^ k * (k + suc j) ≡ 2 ^ k * k + 2 ^ k * suc j = grind arith in
        let r = mul-le-mul_left (2 ^ k) (steps j) in
        omega arith

    by-order : (k < bit_length 128 (suc m)) ⊎ (bit_length 128 (suc m) ≤ k) → 2 ^ k * bit_length 128 (suc m) ≤ suc m + 2 ^ k * k
    by-order (inl more) =
        let e : k + suc (bit_length 128 (suc m) - k - 1) ≡ bit_length 128 (suc m) = omega arith in
        subst (λ (n : ℕ). 2 ^ k * n ≤ suc m + 2 ^ k * k) e
        (after (bit_length 128 (suc m) - k - 1) (subst (λ (n : ℕ). 2 ^ n ≤ 2 * suc m) (sym e) (longest 128 (suc m) (omega arith))))
    by-order (inr less) = let r = mul-le-mul_left (2 ^ k) less in omega arith

whole : (k n : ℕ) → count_leading_zeros k n + bit_length k n ≡ k
unfolding count_leading_zeros
whole zero n = refl
whole (suc k) zero = omega arith
whole (suc k) (suc n) = omega (arith, whole k (suc n / 2))

-- As a line under the powers of two, which needs no cases: of 128 digits a number below `2 ^ (k + 1)` has no more than k + 1.
abbrev pub AtMost : ℕ → ℕ → Type 0
AtMost k n = 2 ^ k * 128 ≤ n + 2 ^ k * (k + count_leading_zeros 128 n)

at-most : (k n : ℕ) → AtMost k n
at-most k n =
    let d : 2 ^ k * (bit_length 128 n + count_leading_zeros 128 n) ≡ 2 ^ k * bit_length 128 n + 2 ^ k * count_leading_zeros 128 n = grind arith in
    let t : 2 ^ k * (k + count_leading_zeros 128 n) ≡ 2 ^ k * k + 2 ^ k * count_leading_zeros 128 n = grind arith in
    let e : bit_length 128 n + count_leading_zeros 128 n ≡ 128 = omega (arith, whole 128 n) in
    let w : 2 ^ k * (bit_length 128 n + count_leading_zeros 128 n) ≡ 2 ^ k * 128 = ap (λ (m : ℕ). 2 ^ k * m) e in
    omega (arith, length-at_most k n)

length-above : (f k n : ℕ) → k < f → 2 ^ k ≤ n → k < bit_length f n
length-above zero k n h e = absurd (omega arith)
length-above (suc f) k zero h e = let p = pow_pos k in absurd (omega arith)
length-above (suc f) zero (suc m) h e = omega arith
length-above (suc f) (suc k) (suc m) h e =
    let p = pow-suc 2 k in
    let r = length-above f k (suc m / 2) (omega arith) (omega arith) in
    omega arith

pub zeros-at_least : (n : ℕ) → AtMost 0 n × AtMost 1 n × AtMost 2 n × AtMost 3 n × AtMost 4 n × AtMost 5 n × AtMost 6 n × AtMost 7 n × AtMost 8 n
    × AtMost 9 n × AtMost 10 n × AtMost 11 n × AtMost 12 n × AtMost 13 n × AtMost 14 n × AtMost 15 n × AtMost 16 n × AtMost 17 n
    × AtMost 18 n × AtMost 19 n × AtMost 20 n × AtMost 21 n × AtMost 22 n × AtMost 23 n × AtMost 27 n × AtMost 29 n × AtMost 30 n
    × AtMost 31 n × AtMost 35 n × AtMost 39 n × AtMost 43 n × AtMost 47 n × AtMost 51 n × AtMost 55 n × AtMost 59 n × AtMost 61 n
    × AtMost 62 n × AtMost 63 n
zeros-at_least n = (
  at-most 0 n,
  at-most 1 n,
  at-most 2 n,
  at-most 3 n,
  at-most 4 n,
  at-most 5 n,
  at-most 6 n,
  at-most 7 n,
  at-most 8 n,
  at-most 9 n,
  at-most 10 n,
  at-most 11 n,
  at-most 12 n,
  at-most 13 n,
  at-most 14 n,
  at-most 15 n,
  at-most 16 n,
  at-most 17 n,
  at-most 18 n,
  at-most 19 n,
  at-most 20 n,
  at-most 21 n,
  at-most 22 n,
  at-most 23 n,
  at-most 27 n,
  at-most 29 n,
  at-most 30 n,
  at-most 31 n,
  at-most 35 n,
  at-most 39 n,
  at-most 43 n,
  at-most 47 n,
  at-most 51 n,
  at-most 55 n,
  at-most 59 n,
  at-most 61 n,
  at-most 62 n,
  at-most 63 n,
)

abbrev pub Above : ℕ → ℕ → Type 0
Above k n = 2 ^ k ≤ n → k + count_leading_zeros 128 n < 128

above : (k n : ℕ) → k < 128 → Above k n
above k n h g = omega (arith, whole 128 n, length-above 128 k n h g)

pub zeros-below : (n : ℕ) → Above 1 n × Above 2 n × Above 3 n × Above 4 n × Above 5 n × Above 6 n × Above 7 n × Above 8 n × Above 9 n
    × Above 10 n × Above 11 n × Above 12 n × Above 13 n × Above 14 n × Above 15 n × Above 16 n × Above 20 n × Above 24 n
    × Above 31 n × Above 32 n × Above 48 n × Above 63 n
zeros-below n = (
  above 1 n (omega arith),
  above 2 n (omega arith),
  above 3 n (omega arith),
  above 4 n (omega arith),
  above 5 n (omega arith),
  above 6 n (omega arith),
  above 7 n (omega arith),
  above 8 n (omega arith),
  above 9 n (omega arith),
  above 10 n (omega arith),
  above 11 n (omega arith),
  above 12 n (omega arith),
  above 13 n (omega arith),
  above 14 n (omega arith),
  above 15 n (omega arith),
  above 16 n (omega arith),
  above 20 n (omega arith),
  above 24 n (omega arith),
  above 31 n (omega arith),
  above 32 n (omega arith),
  above 48 n (omega arith),
  above 63 n (omega arith),
)

pub ruleset leading_zeros = (tail-of_numeral, tail-orders, leading-of_primitive, zeros-at_least, zeros-below)
