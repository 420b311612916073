-- One bit of a primitive by its place k, as `1 << k` makes it: set, cleared, toggled and tested. The other bits
-- do not change.
use Rattle.std.specs.Prelude.{◌≡◌, ◌≢◌, ◌⊎◌, ℕ, zero, suc, max, ◌+◌, ◌-◌, ◌*◌, ◌/◌, ◌%◌, ◌^◌, ◌≤◌, ◌<◌}
use Rattle.std.specs.Int.{bit_at}
use Rattle.std.specs.Int.Bits.{bit_and, bit_or, bit_xor}
use Rattle.std.proofs.Common.{refl, sym, ap, ◌∙◌, arith, inl, inr}
use Rattle.std.proofs.lemmas.Grind.{and-not_self, and_not_bit, bit_length, low_zeros, one_shifted}
use Rattle.std.proofs.lemmas.Nat.{pow_apart, pow_below, pow_pos}
use Rattle.std.proofs.lemmas.Nat.Bits.{and_pow, bit_at-lt, bit_at-pow_other, bit_at-pow_same, bit_at-zero, bit_at_and, bit_at_or, bit_at_xor, same_from_bits}

either : (b m z : ℕ) → b < 2 → z ≡ b * m → ((b ≡ 0) × (z ≡ 0)) ⊎ ((b ≡ 1) × (z ≡ m))
either zero m z h e = inl (refl, e ∙ omega arith)
either (suc zero) m z h e = inr (refl, e ∙ omega arith)
either (suc (suc b)) m z h e = absurd (omega arith)

same_factor : (a b m : ℕ) → 0 < m → a * m ≡ b * m → a ≡ b
same_factor a b m p e = grind arith

-- `suc m` is 2 to the type's width, so that `1 * 2 ^ k % suc m` is `1 << k`. The first part of a conclusion that begins with an equation of a
-- call with itself says nothing: it shows the search the call
module _ (n k m : ℕ) (wide : suc m ≡ 2 ^ low_zeros 128 (suc m)) (place : k < low_zeros 128 (suc m)) where
  abbrev one : ℕ
  one = 1 * 2 ^ k % suc m

  power : one ≡ 2 ^ k
  power = let s = one_shifted k m wide place in s.0

  pub bit_tested : (bit_and n (1 * 2 ^ k % suc m) ≡ bit_and n (1 * 2 ^ k % suc m)) × (0 < 2 ^ k)
      × (((n / 2 ^ k % 2 ≡ 0) × (bit_and n (1 * 2 ^ k % suc m) ≡ 0)) ⊎ ((n / 2 ^ k % 2 ≡ 1) × (bit_and n (1 * 2 ^ k % suc m) ≡ 2 ^ k)))
  bit_tested = (refl, pow_pos k, either (bit_at n k) (2 ^ k) _ (bit_at-lt n k) (ap (bit_and n) power ∙ and_pow n k))

  set-at : (i : ℕ) → bit_at (bit_or n one) i ≡ max (bit_at n i) (bit_at (2 ^ k) i)
  set-at i = ap (λ (a : ℕ). bit_at (bit_or n a) i) power ∙ bit_at_or n (2 ^ k) i

  pub bit_set : (bit_or n (1 * 2 ^ k % suc m) ≡ bit_or n (1 * 2 ^ k % suc m)) × (bit_or n (1 * 2 ^ k % suc m) / 2 ^ k % 2 ≡ 1)
  bit_set = (refl, set-at k ∙ omega (arith, bit_at-lt n k, bit_at-pow_same k))

  pub bit_set-other : (i : ℕ) → i ≢ k → bit_or n (1 * 2 ^ k % suc m) / 2 ^ i % 2 ≡ n / 2 ^ i % 2
  bit_set-other i d = set-at i ∙ omega (arith, bit_at-pow_other k i d)

  -- a bit that is set already stays, be its place k or another
  pub bit_set-kept : (i : ℕ) → n / 2 ^ i % 2 ≡ 1 → bit_or n (1 * 2 ^ k % suc m) / 2 ^ i % 2 ≡ 1
  bit_set-kept i e = set-at i ∙ omega (arith, e, bit_at-lt (2 ^ k) i)

  turned-at : (i : ℕ) → bit_at (bit_xor n one) i ≡ (bit_at n i + bit_at (2 ^ k) i) % 2
  turned-at i = ap (λ (a : ℕ). bit_at (bit_xor n a) i) power ∙ bit_at_xor n (2 ^ k) i

  pub bit_turned : (bit_xor n (1 * 2 ^ k % suc m) ≡ bit_xor n (1 * 2 ^ k % suc m)) × (bit_xor n (1 * 2 ^ k % suc m) / 2 ^ k % 2 ≡ 1 - n / 2 ^ k % 2)
  bit_turned = (refl, turned-at k ∙ omega (arith, bit_at-lt n k, bit_at-pow_same k))

  pub bit_turned-other : (i : ℕ) → i ≢ k → bit_xor n (1 * 2 ^ k % suc m) / 2 ^ i % 2 ≡ n / 2 ^ i % 2
  bit_turned-other i d = turned-at i ∙ omega (arith, bit_at-lt n i, bit_at-pow_other k i d)

-- t is the type's greatest number, so that `t - 1 * 2 ^ k % suc m` is `!(1 << k)`
module _ (n t k m : ℕ) (top : t + 1 ≡ suc m) (wide : suc m ≡ 2 ^ low_zeros 128 (suc m)) (length : suc m ≡ 2 ^ bit_length 128 t) (place : k < low_zeros 128 (suc m)) where
  abbrev rest : ℕ
  rest = t - 1 * 2 ^ k % suc m

  apart : rest ≡ t - 2 ^ k
  apart = ap (λ (a : ℕ). t - a) (power n k m wide place)

  fits : 2 ^ k ≤ t
  fits = omega (arith, pow_below k (low_zeros 128 (suc m)) place)

  none : (a : ℕ) → bit_and (bit_and a rest) (2 ^ k) ≡ 0
  none a = ap (λ (r : ℕ). bit_and (bit_and a r) (2 ^ k)) apart ∙ and-not_self a t (2 ^ k) (2 ^ k) (top ∙ length) fits refl

  gone : (a : ℕ) → bit_and a rest / 2 ^ k % 2 ≡ 0
  gone a = same_factor _ 0 (2 ^ k) (pow_pos k) (sym (and_pow (bit_and a rest) k) ∙ none a ∙ omega arith)

  pub bit_cleared : (bit_and n (t - 1 * 2 ^ k % suc m) ≡ bit_and n (t - 1 * 2 ^ k % suc m)) × (bit_and n (t - 1 * 2 ^ k % suc m) / 2 ^ k % 2 ≡ 0)
  bit_cleared = (refl, gone n)

  pub bit_cleared-other : (i : ℕ) → i ≢ k → i < bit_length 128 t → bit_and n (t - 1 * 2 ^ k % suc m) / 2 ^ i % 2 ≡ n / 2 ^ i % 2
  bit_cleared-other i d l =
      ap (λ (r : ℕ). bit_at (bit_and n r) i) apart
      ∙ same_factor _ _ (2 ^ i) (pow_pos i) (sym (and_pow (bit_and n (t - 2 ^ k)) i)
      ∙ and_not_bit n t (2 ^ k) i (top ∙ length) fits l (pow_apart k i (λ e. d (sym e))) ∙ and_pow n i)

  pub set_then_cleared : bit_and (bit_or n (1 * 2 ^ k % suc m)) (t - 1 * 2 ^ k % suc m) ≡ bit_and n (t - 1 * 2 ^ k % suc m)
  set_then_cleared = same_from_bits _ _ alike
    where
      alike : (i : ℕ) → bit_at (bit_and (bit_or n (1 * 2 ^ k % suc m)) rest) i ≡ bit_at (bit_and n rest) i
      alike i =
          let z : bit_at (bit_and (bit_and rest rest) (2 ^ k)) i ≡ 0 = ap (λ (a : ℕ). bit_at a i) (none rest) ∙ bit_at-zero i in
          let u = bit_at_and (bit_and rest rest) (2 ^ k) i in
          let v = bit_at_and rest rest i in
          bit_at_and (bit_or n (1 * 2 ^ k % suc m)) rest i ∙ omega (arith, set-at n k m wide place i, bit_at_and n rest i, z, u, v)
