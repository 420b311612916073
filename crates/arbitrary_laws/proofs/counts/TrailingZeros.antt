-- The trailing zeros of a multiple of a power of two. Callers name the set `trailing_zeros`.
use Rattle.std.specs.Prelude.{◌≡◌, ◌⊎◌, ℕ, zero, suc, ◌≤◌, ◌<◌, ◌+◌, ◌*◌, ◌/◌, ◌%◌, ◌^◌}
use Rattle.std.proofs.Common.{refl, sym, ◌∙◌, arith, inl, inr, mod-eq_of_lt, pow-suc}
use Rattle.std.proofs.Math.Pow.{pow_mono}
use Rattle.std.proofs.lemmas.Bool.{cases_lt}
use Rattle.std.specs.Int.Count.{count_trailing_zeros, under}
use Rattle.arbitrary_base.proofs.bit_lists.UnsignedNumber.{mod-suc}

at-least : (f k n : ℕ) → k ≤ f → 0 < n → n % 2 ^ k ≡ 0 → k ≤ count_trailing_zeros f n
unfolding count_trailing_zeros
at-least f zero n h z e = omega arith
at-least zero (suc k) n h z e = absurd (omega arith)
at-least (suc f) (suc k) n h z e = by-digit (n % 2) refl (at-least f k (n / 2) (omega arith))
  where
    by-digit : (d : ℕ) → d ≡ n % 2 → (0 < n / 2 → n / 2 % 2 ^ k ≡ 0 → k ≤ count_trailing_zeros f (n / 2)) → suc k ≤ under (n % 2) (count_trailing_zeros f (n / 2))
    by-digit zero d more = let r = more (omega arith) (omega (arith, mod-suc k n)) in rw (sym d) (omega arith)
    by-digit (suc c) d more = absurd (omega (arith, mod-suc k n))

multiple : (f k n : ℕ) → 0 < n → k ≤ count_trailing_zeros f n → n % 2 ^ k ≡ 0
unfolding count_trailing_zeros
multiple f zero n z h = omega arith
multiple zero (suc k) n z h = absurd (omega arith)
multiple (suc f) (suc k) n z h = by-digit (n % 2) refl h (multiple f k (n / 2))
  where
    by-digit : (d : ℕ) → d ≡ n % 2 → suc k ≤ under (n % 2) (count_trailing_zeros f (n / 2)) → (0 < n / 2 → k ≤ count_trailing_zeros f (n / 2) → n / 2 % 2 ^ k ≡ 0) → n % 2 ^ suc k ≡ 0
    by-digit zero d h more = let l : suc k ≤ suc (count_trailing_zeros f (n / 2)) = rw (sym d) at h in let r = more (omega arith) (omega arith) in mod-suc k n ∙ omega arith
    by-digit (suc c) d h more = let l : suc k ≤ 0 = rw (sym d) at h in absurd (omega arith)

-- A multiple has as many zeros: as a line, which needs no cases. And a number that has as many is a multiple.
abbrev pub AtLeast : ℕ → ℕ → ℕ → Type 0
AtLeast k B n = k ≤ count_trailing_zeros B n + k * (n % 2 ^ k)

zeros : (k B n : ℕ) → 0 < n → n < 2 ^ B → AtLeast k B n
zeros k B n h g = by-rest (n % 2 ^ k) refl
  where
    within : n % 2 ^ k ≡ 0 → k ≤ B
    within e = by-order (cases_lt B k)
      where
        by-order : (B < k) ⊎ (k ≤ B) → k ≤ B
        by-order (inl less) =
            let p = pow_mono less in
            let q = pow-suc 2 B in
            let l : n < 2 ^ k = omega arith in
            let m : n % 2 ^ k ≡ n = mod-eq_of_lt l in
            absurd (omega arith)
        by-order (inr more) = more

    by-rest : (r : ℕ) → r ≡ n % 2 ^ k → k ≤ count_trailing_zeros B n + k * (n % 2 ^ k)
    by-rest zero e = let l = at-least B k n (within (sym e)) h (sym e) in omega arith
    by-rest (suc r) e = rw (sym e) (grind arith)

pub zeros-of_multiples : (B n : ℕ) → 0 < n → n < 2 ^ B → AtLeast 1 B n × AtLeast 2 B n × AtLeast 3 B n × AtLeast 4 B n × AtLeast 5 B n × AtLeast 6 B n × AtLeast 7 B n × AtLeast 8 B n
    × AtLeast 9 B n × AtLeast 10 B n × AtLeast 11 B n × AtLeast 12 B n × AtLeast 13 B n × AtLeast 14 B n × AtLeast 15 B n × AtLeast 16 B n
    × AtLeast 20 B n × AtLeast 24 B n × AtLeast 32 B n
zeros-of_multiples B n h g = (
  zeros 1 B n h g,
  zeros 2 B n h g,
  zeros 3 B n h g,
  zeros 4 B n h g,
  zeros 5 B n h g,
  zeros 6 B n h g,
  zeros 7 B n h g,
  zeros 8 B n h g,
  zeros 9 B n h g,
  zeros 10 B n h g,
  zeros 11 B n h g,
  zeros 12 B n h g,
  zeros 13 B n h g,
  zeros 14 B n h g,
  zeros 15 B n h g,
  zeros 16 B n h g,
  zeros 20 B n h g,
  zeros 24 B n h g,
  zeros 32 B n h g,
)

abbrev pub Multiple : ℕ → ℕ → ℕ → Type 0
Multiple k B n = k ≤ count_trailing_zeros B n → n % 2 ^ k ≡ 0

pub multiples-by_zeros : (B n : ℕ) → 0 < n → Multiple 1 B n × Multiple 2 B n × Multiple 3 B n × Multiple 4 B n × Multiple 5 B n × Multiple 6 B n × Multiple 7 B n × Multiple 8 B n
    × Multiple 12 B n × Multiple 16 B n
multiples-by_zeros B n h = (
  multiple B 1 n h,
  multiple B 2 n h,
  multiple B 3 n h,
  multiple B 4 n h,
  multiple B 5 n h,
  multiple B 6 n h,
  multiple B 7 n h,
  multiple B 8 n h,
  multiple B 12 n h,
  multiple B 16 n h,
)

pub ruleset trailing_zeros = (zeros-of_multiples, multiples-by_zeros)
