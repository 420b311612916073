-- The number of zeros at an end of a number, by its own digits: a width adds zeros above them, and none below.
use Rattle.std.specs.Bool.{beq}
use Rattle.std.specs.Int.Count.{count_leading_zeros, count_trailing_zeros, leading_of_zero, leading_unique, under}
use Rattle.std.specs.List.{prefix_len, suffix_len}
use Rattle.std.specs.Prelude.{Bool, false, negsuc, pos, suc, true, unsigned_abs, zero, ℕ, ℤ, ◌%◌, ◌*◌, ◌+◌, ◌-◌, ◌/◌, ◌<◌, ◌==◌, ◌^◌, ◌∷◌, ◌≡◌, ◌≤ℤ◌, ◌≤◌, ◌⊎◌}
use Rattle.std.proofs.Common.{ap, arith, inl, inr, pow-suc, refl, sym, ◌∙◌}
use Rattle.std.proofs.Math.Pow.{pow_mono}
use Rattle.std.proofs.lemmas.Bool.{cases_lt}
use Rattle.std.proofs.lemmas.Grind.{bit_length, low_zeros}
use Rattle.std.proofs.lemmas.Int.{ints}
use Rattle.std.proofs.lemmas.Nat.{pow_pos}
use Rattle.arbitrary_base.specs.BitList.{bits, num}
use Rattle.arbitrary_base.specs.Range.{InRange}
use Rattle.arbitrary_base.proofs.bit_lists.Count.{leading-num}
use Rattle.arbitrary_base.proofs.bit_lists.UnsignedNumber.{length-bits, num-bits_small}
use Rattle.arbitrary_base.proofs.modular.Congruence.{pow_half}
use Rattle.arbitrary_calls.proofs.counts.EndCounts.{front-of_zero}

-- ---- at the high end

-- the bit length is where the powers of two say
pub length-between : (f m : ℕ) → 0 < m → m < 2 ^ f → (1 ≤ bit_length f m) × (m < 2 ^ bit_length f m) × (2 ^ bit_length f m ≤ 2 * m)
length-between f zero z g = absurd (omega arith)
length-between zero (suc m) z g = absurd (omega arith)
length-between (suc f) (suc m) z g = by-half (suc m / 2) refl (λ some. length-between f (suc m / 2) some (let p = pow-suc 2 f in omega arith))
  where
    by-half : (h : ℕ) → h ≡ suc m / 2 → (0 < suc m / 2 → (1 ≤ bit_length f (suc m / 2)) × (suc m / 2 < 2 ^ bit_length f (suc m / 2)) × (2 ^ bit_length f (suc m / 2) ≤ 2 * (suc m / 2)))
        → (1 ≤ suc (bit_length f (suc m / 2))) × (suc m < 2 ^ suc (bit_length f (suc m / 2))) × (2 ^ suc (bit_length f (suc m / 2)) ≤ 2 * suc m)
    by-half zero e more =
        let none : bit_length f (suc m / 2) ≡ 0 = ap (bit_length f) (sym e) ∙ of-zero f in
        rw none (omega arith, omega arith, omega arith)
      where
        of-zero : (f : ℕ) → bit_length f 0 ≡ 0
        of-zero zero = refl
        of-zero (suc f) = refl
    by-half (suc h) e more =
        let r = more (omega arith) in
        let p = pow-suc 2 (bit_length f (suc m / 2)) in
        let a = r.1 in
        let b = r.2 in
        (omega arith, omega arith, omega arith)

pub leading-counted : (B n : ℕ) → B ≤ 128 → n < 2 ^ B → count_leading_zeros B n + bit_length 128 n ≡ B
leading-counted B zero h g = let e = leading_of_zero B in omega arith
leading-counted B (suc m) h g =
    let n = bit_length 128 (suc m) in
    let wide : suc m < 2 ^ 128 = (let p = pow_mono h in omega arith) in
    let r = length-between 128 (suc m) (omega arith) wide in
    let low = r.1 in
    let high = r.2 in
    let within : n ≤ B = fits n low high in
    let u = leading_unique B (suc m) (B - n) n (omega arith) low (omega arith) in
    omega arith
  where
    fits : (n : ℕ) → suc m < 2 ^ n → 2 ^ n ≤ 2 * suc m → n ≤ B
    fits n low high = by-order (cases_lt B n)
      where
        by-order : (B < n) ⊎ (n ≤ B) → n ≤ B
        by-order (inl more) = (let p = pow_mono more in let q = pow-suc 2 B in absurd (omega arith))
        by-order (inr less) = less

pub tail-counted : (B n : ℕ) → B ≤ 128 → n < 2 ^ B → suffix_len (beq false) (bits B (pos n)) + bit_length 128 n ≡ B
tail-counted B n h g =
    let l = bits B (pos n) in
    let e : suffix_len (beq false) l ≡ count_leading_zeros B n =
    sym (leading-num l) ∙ ap (λ (k : ℕ). count_leading_zeros k (num l)) (length-bits B (pos n)) ∙ ap (count_leading_zeros B) (num-bits_small B n g) in
    omega (arith, leading-counted B n h g)

-- ---- at the low end

pub front-counted : (f B : ℕ) (x : ℤ) → B ≤ f → 0 < unsigned_abs x → unsigned_abs x < 2 ^ B
    → prefix_len (beq false) (bits B x) ≡ low_zeros f (unsigned_abs x)
unfolding bits
front-counted f B (pos zero) h z g = absurd (omega arith)
front-counted f zero (pos (suc m)) h z g = absurd (omega arith)
front-counted zero (suc B) (pos (suc m)) h z g = absurd (omega arith)
front-counted (suc f) (suc B) (pos (suc m)) h z g =
    by-digit (suc m % 2) refl (λ some. front-counted f B (pos (suc m / 2)) (omega arith) some (let p = pow-suc 2 B in omega arith))
  where
    by-digit : (d : ℕ) → d ≡ suc m % 2 → (0 < suc m / 2 → prefix_len (beq false) (bits B (pos (suc m / 2))) ≡ low_zeros f (suc m / 2))
        → prefix_len (beq false) ((suc m % 2 == 1) ∷ bits B (pos (suc m / 2))) ≡ low_zeros (suc f) (suc m)
    by-digit zero e more = rw (sym e) (let r = more (omega arith) in omega arith)
    by-digit (suc zero) e more = rw (sym e) refl
    by-digit (suc (suc d)) e more = absurd (omega arith)
front-counted f zero (negsuc n) h z g = absurd (omega arith)
front-counted zero (suc B) (negsuc n) h z g = absurd (omega arith)
front-counted (suc f) (suc B) (negsuc n) h z g =
    by-digit (suc n % 2) refl (λ even. front-counted f B (negsuc (n / 2)) (omega arith) (omega arith) (let p = pow-suc 2 B in omega arith))
  where
    by-digit : (d : ℕ) → d ≡ suc n % 2 → (0 ≡ suc n % 2 → prefix_len (beq false) (bits B (negsuc (n / 2))) ≡ low_zeros f (suc (n / 2)))
        → prefix_len (beq false) ((suc n % 2 == 1) ∷ bits B (negsuc (n / 2))) ≡ low_zeros (suc f) (suc n)
    by-digit zero e more =
        let q : suc (n / 2) ≡ suc n / 2 = omega arith in
        let r = more e ∙ ap (low_zeros f) q in
        rw (sym e) (omega arith)
    by-digit (suc zero) e more = rw (sym e) refl
    by-digit (suc (suc d)) e more = absurd (omega arith)

trailing-zero : (B : ℕ) → count_trailing_zeros B 0 ≡ B
unfolding count_trailing_zeros
trailing-zero zero = refl
trailing-zero (suc k) = ap suc (trailing-zero k)

low-counted : (f n : ℕ) → 0 < n → low_zeros f n ≡ count_trailing_zeros f n
unfolding count_trailing_zeros
low-counted f zero h = absurd (omega arith)
low-counted zero (suc m) h = refl
low-counted (suc f) (suc m) h = by-digit (suc m % 2) refl (low-counted f (suc m / 2))
  where
    by-digit : (d : ℕ) → d ≡ suc m % 2 → (0 < suc m / 2 → low_zeros f (suc m / 2) ≡ count_trailing_zeros f (suc m / 2))
        → under (suc m % 2) (low_zeros f (suc m / 2)) ≡ under (suc m % 2) (count_trailing_zeros f (suc m / 2))
    by-digit zero e more = ap (under (suc m % 2)) (more (omega arith))
    by-digit (suc d) e more = rw (sym e) refl

-- ---- of a number in range

module _ (s : Bool) (B : ℕ) (x : ℤ) (h : 1 ≤ B) (g : B ≤ 128) (f : InRange s B x) where
  pub leading-by_count : pos 0 ≤ℤ x → suffix_len (beq false) (bits B x) + 128 ≡ count_leading_zeros 128 (unsigned_abs x) + B
  leading-by_count l = by-sign s x f l
    where
      whole : (n : ℕ) → n < 2 ^ B → suffix_len (beq false) (bits B (pos n)) + 128 ≡ count_leading_zeros 128 n + B
      whole n h = let p = pow_mono g in omega (arith, tail-counted B n g h, leading-counted 128 n (omega arith) (omega arith))

      by-sign : (s : Bool) (x : ℤ) → InRange s B x → pos 0 ≤ℤ x → suffix_len (beq false) (bits B x) + 128 ≡ count_leading_zeros 128 (unsigned_abs x) + B
      by-sign s (negsuc n) f l = absurd (omega (arith, ints))
      by-sign true (pos n) f l = let t = f.high in let p = pow_half B h in let q = pow_pos (B - 1) in whole n (omega (arith, ints))
      by-sign false (pos n) f l = let t = f.high in let q = pow_pos B in whole n (omega (arith, ints))

  pub trailing-by_count : prefix_len (beq false) (bits B x) ≡ count_trailing_zeros B (unsigned_abs x)
  trailing-by_count = by-sign s x f
    where
      counted : (x : ℤ) → 0 < unsigned_abs x → unsigned_abs x < 2 ^ B → prefix_len (beq false) (bits B x) ≡ count_trailing_zeros B (unsigned_abs x)
      counted x z l = front-counted B B x (omega arith) z l ∙ low-counted B (unsigned_abs x) z

      by-sign : (s : Bool) (x : ℤ) → InRange s B x → prefix_len (beq false) (bits B x) ≡ count_trailing_zeros B (unsigned_abs x)
      by-sign s (pos zero) f = front-of_zero B ∙ sym (trailing-zero B)
      by-sign true (pos (suc m)) f = let t = f.high in let p = pow_half B h in let q = pow_pos (B - 1) in counted (pos (suc m)) (omega arith) (omega (arith, ints))
      by-sign true (negsuc n) f = let t = f.low in let p = pow_half B h in let q = pow_pos (B - 1) in counted (negsuc n) (omega arith) (omega (arith, ints))
      by-sign false (pos (suc m)) f = let t = f.high in let q = pow_pos B in counted (pos (suc m)) (omega arith) (omega (arith, ints))
      by-sign false (negsuc n) f = let t = f.low in absurd (omega (arith, ints))
