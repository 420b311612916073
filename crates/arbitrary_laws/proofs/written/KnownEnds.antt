-- The counts of a literal, also of one below 0 and of one with its highest bit set: its complement has ones for
-- zeros.
use Rattle.std.specs.Bool.{beq}
use Rattle.std.specs.List.{count_by, prefix_len, suffix_len}
use Rattle.std.specs.Prelude.{false, negsuc, pos, suc, true, zero, ℕ, ◌%◌, ◌+◌, ◌-◌, ◌/◌, ◌<◌, ◌==◌, ◌^◌, ◌∷◌, ◌≡◌, ◌≤ℤ◌, ◌≤◌}
use Rattle.std.proofs.Common.{ap, arith, pow-suc, refl, sym, ◌∙◌}
use Rattle.std.proofs.lemmas.Grind.{bit_length, low_zeros}
use Rattle.std.proofs.lemmas.Int.{ints}
use Rattle.std.proofs.lemmas.Nat.{pow_pos}
use Rattle.arbitrary_base.specs.BitList.{bits}
use Rattle.arbitrary_base.specs.Operation.{bitwise_not}
use Rattle.arbitrary_base.specs.Range.{InRange, hi}
use Rattle.arbitrary_base.proofs.bit_lists.StdBitwise.{not-signed, not-unsigned}
use Rattle.arbitrary_base.proofs.modular.Congruence.{pow_half}
use Rattle.arbitrary_base.proofs.operations.Definition.{not-is}
use Rattle.arbitrary_base.proofs.operations.PopulationAndRuns.{front_ones-of_not, popcount-of_not, tail_ones-of_not, tail_zeros-of_not}
use Rattle.arbitrary_calls.proofs.counts.RunsByDigits.{front-counted, tail-counted}
use Rattle.arbitrary_laws.proofs.counts.CountBounds.{front-of_numeral}
use Rattle.arbitrary_laws.proofs.written.KnownCount.{counted, ones_of}

-- the complement of a number from 0 on
not-negative : (B n : ℕ) → 1 ≤ B → pos n ≤ℤ hi true B → bitwise_not true B (pos n) ≡ negsuc n
not-negative B n h g =
    let p = pow_pos (B - 1) in
    let r : InRange true B (pos n) = record { low = omega (arith, ints); high = g } in
    let e = not-signed true B (pos n) _ refl h r (not-is true B (pos n)) in
    omega (arith, ints)

below : (B n : ℕ) → 1 ≤ B → pos n ≤ℤ hi true B → n < 2 ^ B
below B n h g = let p = pow_half B h in let q = pow_pos (B - 1) in omega (arith, ints)

-- ---- how many are one

pub popcount-of_negative : (B n : ℕ) → 1 ≤ B → B ≤ 128 → pos n ≤ℤ hi true B → count_by (λ b. b) (bits B (negsuc n)) ≡ B - ones_of 128 n
popcount-of_negative B n h g f =
    ap (λ x. count_by (λ b. b) (bits B x)) (sym (not-negative B n h f)) ∙ popcount-of_not true B (pos n)
    ∙ ap (λ (m : ℕ). B - m) (counted 128 B n g (below B n h f))

-- ---- at the low end

ones-counted : (f B n : ℕ) → B ≤ f → n < 2 ^ B → prefix_len (beq true) (bits B (pos n)) ≡ low_zeros f (suc n)
unfolding bits
ones-counted zero zero n h g = refl
ones-counted (suc f) zero n h g = let z : 0 ≡ n = omega arith in ap (λ (m : ℕ). low_zeros (suc f) (suc m)) z
ones-counted zero (suc B) n h g = absurd (omega arith)
ones-counted (suc f) (suc B) n h g = by-digit (n % 2) refl (ones-counted f B (n / 2) (omega arith) (let p = pow-suc 2 B in omega arith))
  where
    by-digit : (d : ℕ) → d ≡ n % 2 → prefix_len (beq true) (bits B (pos (n / 2))) ≡ low_zeros f (suc (n / 2))
        → prefix_len (beq true) ((n % 2 == 1) ∷ bits B (pos (n / 2))) ≡ low_zeros (suc f) (suc n)
    by-digit zero e more = let d : suc n % 2 ≡ 1 = omega arith in rw (sym e, d) refl
    by-digit (suc zero) e more =
        let d : suc n % 2 ≡ 0 = omega arith in
        let q : suc n / 2 ≡ suc (n / 2) = omega arith in
        rw (sym e, d, q) (omega (arith, more))
    by-digit (suc (suc d)) e more = absurd (omega arith)

pub front_ones-of_numeral : (B m : ℕ) → B ≤ 128 → suc m < 2 ^ B → prefix_len (beq true) (bits B (pos (suc m))) ≡ low_zeros 128 (suc (suc m))
front_ones-of_numeral B m h g = ones-counted 128 B (suc m) h g

pub front-of_negative : (B n : ℕ) → 1 ≤ B → B ≤ 128 → pos n ≤ℤ hi true B → prefix_len (beq false) (bits B (negsuc n)) ≡ low_zeros 128 (suc n)
front-of_negative B n h g f = front-counted 128 B (negsuc n) g (omega arith) (let p = pow_half B h in let q = pow_pos (B - 1) in omega (arith, ints))

pub front_ones-of_negative : (B m : ℕ) → 1 ≤ B → B ≤ 128 → pos (suc m) ≤ℤ hi true B → prefix_len (beq true) (bits B (negsuc (suc m))) ≡ low_zeros 128 (suc m)
front_ones-of_negative B m h g f =
    ap (λ x. prefix_len (beq true) (bits B x)) (sym (not-negative B (suc m) h f)) ∙ front_ones-of_not true B (pos (suc m))
    ∙ front-of_numeral B m g (below B (suc m) h f)

-- ---- at the high end

pub tail_ones-of_negative : (B n : ℕ) → 1 ≤ B → B ≤ 128 → pos n ≤ℤ hi true B → suffix_len (beq true) (bits B (negsuc n)) + bit_length 128 n ≡ B
tail_ones-of_negative B n h g f =
    let e = ap (λ x. suffix_len (beq true) (bits B x)) (sym (not-negative B n h f)) ∙ tail_ones-of_not true B (pos n) in
    let t = tail-counted B n g (below B n h f) in
    omega (arith, e, t)

pub tail_ones-of_numeral : (B m : ℕ) → 1 ≤ B → B ≤ 128 → suc m < 2 ^ B
    → suffix_len (beq true) (bits B (pos (suc m))) + bit_length 128 (2 ^ B - 1 - suc m) ≡ B
tail_ones-of_numeral B m h g f =
    let r : InRange false B (pos (suc m)) = record { low = omega (arith, ints); high = omega (arith, ints) } in
    let d = not-unsigned false B (pos (suc m)) _ refl h r (not-is false B (pos (suc m))) in
    let c : bitwise_not false B (pos (suc m)) ≡ pos (2 ^ B - 1 - suc m) = omega (arith, ints) in
    let e = sym (tail_zeros-of_not false B (pos (suc m))) ∙ ap (λ x. suffix_len (beq false) (bits B x)) c in
    let t = tail-counted B (2 ^ B - 1 - suc m) g (omega arith) in
    omega (arith, e, t)
