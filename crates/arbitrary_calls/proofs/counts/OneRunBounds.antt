-- What the counts of leading and trailing ones determine of a number: they are the zeros of its complement.
use Rattle.std.specs.Bool.{beq}
use Rattle.std.specs.Int.{int_div_euclid, int_rem_euclid}
use Rattle.std.specs.List.{count_by, prefix_len, suffix_len}
use Rattle.std.specs.Prelude.{Bool, false, neg_ℤ, negsuc, pos, suc, true, unsigned_abs, zero, ℕ, ℤ, ◌%◌, ◌+◌, ◌-ℤ◌, ◌-◌, ◌<ℤ◌, ◌<◌, ◌==◌, ◌^◌, ◌∷◌, ◌≡◌, ◌≢◌, ◌≤ℤ◌, ◌≤◌}
use Rattle.std.proofs.Common.{ap, arith, refl, sym, ◌∙◌}
use Rattle.std.proofs.lemmas.Int.{ints}
use Rattle.std.proofs.lemmas.Nat.{pow_pos}
use Rattle.arbitrary_base.specs.BitList.{bits}
use Rattle.arbitrary_base.specs.Operation.{bitwise_not}
use Rattle.arbitrary_base.specs.Range.{InRange}
use Rattle.arbitrary_base.specs.Residue.{Congruent}
use Rattle.arbitrary_base.proofs.bit_lists.StdBitwise.{not-signed, not-unsigned}
use Rattle.arbitrary_base.proofs.modular.Congruence.{pow_half, pow_le}
use Rattle.arbitrary_base.proofs.operations.Definition.{not-in_range, not-is}
use Rattle.arbitrary_base.proofs.operations.PopulationAndRuns.{front_zeros-of_not, popcount-of_not, tail_zeros-of_not}
use Rattle.arbitrary_calls.proofs.counts.EndCounts.{front-of_minus_one, popcount-of_minus_one, tail-of_minus_one}
use Rattle.arbitrary_calls.proofs.counts.ZeroRunBounds.{leading-found, leading-high, leading-low, leading-negative, leading-none, popcount-some, trailing-found}

-- ---- the complement

-- it is 0 of a number whose bits are all one, and of no other
not-zero : (s : Bool) (B : ℕ) (x : ℤ) → 1 ≤ B → InRange s B x → x ≢ pos (2 ^ B) -ℤ pos 1 → x ≢ neg_ℤ (pos 1) → bitwise_not s B x ≢ pos 0
not-zero false B x h f d g z =
    let e = not-unsigned false B x (bitwise_not false B x) refl h f (not-is false B x) in
    d (omega (arith, ints))
not-zero true B x h f d g z =
    let e = not-signed true B x (bitwise_not true B x) refl h f (not-is true B x) in
    g (omega (arith, ints))

-- ---- ones at the high end

-- a number below half of the numbers that have no sign
upper-none : (B : ℕ) (y : ℤ) → 1 ≤ B → InRange false B y → pos (2 ^ (B - 1)) ≤ℤ y → suffix_len (beq false) (bits B y) ≡ 0
upper-none B y h f g =
    let p = pow_pos (B - 1) in
    let l = leading-high false B y h f (omega (arith, ints)) in
    by-cases (suffix_len (beq false) (bits B y)) refl l
  where
    by-cases : (t : ℕ) → t ≡ suffix_len (beq false) (bits B y) → y <ℤ pos (2 ^ (B - suffix_len (beq false) (bits B y))) → suffix_len (beq false) (bits B y) ≡ 0
    by-cases zero e l = sym e
    by-cases (suc t) e l =
        let q = pow_le (B - suffix_len (beq false) (bits B y)) (B - 1) (omega arith) in
        absurd (omega (arith, ints))

lower-some : (s : Bool) (B : ℕ) (y : ℤ) → 1 ≤ B → InRange s B y → pos 0 ≤ℤ y → y <ℤ pos (2 ^ (B - 1)) → 1 ≤ suffix_len (beq false) (bits B y)
lower-some s B (negsuc n) h f g l = absurd (omega (arith, ints))
lower-some s B (pos zero) h f g l = let e = leading-none s B (pos zero) h f refl in omega arith
lower-some s B (pos (suc n)) h f g l = by-cases (suffix_len (beq false) (bits B (pos (suc n)))) refl (leading-low s B (pos (suc n)) h f (omega (arith, ints)))
  where
    by-cases : (t : ℕ) → t ≡ suffix_len (beq false) (bits B (pos (suc n))) → pos (2 ^ (B - 1 - suffix_len (beq false) (bits B (pos (suc n))))) ≤ℤ pos (suc n)
        → 1 ≤ suffix_len (beq false) (bits B (pos (suc n)))
    by-cases zero e k =
        let w : 2 ^ (B - 1 - suffix_len (beq false) (bits B (pos (suc n)))) ≡ 2 ^ (B - 1) = ap (λ (m : ℕ). 2 ^ m) (omega arith) in
        absurd (omega (arith, ints))
    by-cases (suc t) e k = omega arith

pub leading_ones-none : (s : Bool) (B : ℕ) (x : ℤ) → 1 ≤ B → InRange s B x → pos 0 ≤ℤ x → x <ℤ pos (2 ^ (B - 1)) → suffix_len (beq true) (bits B x) ≡ 0
leading_ones-none true B x h f g l =
    let e = not-signed true B x (bitwise_not true B x) refl h f (not-is true B x) in
    sym (tail_zeros-of_not true B x) ∙ leading-negative true B (bitwise_not true B x) h (not-in_range true B x h) (omega (arith, ints))
leading_ones-none false B x h f g l =
    let e = not-unsigned false B x (bitwise_not false B x) refl h f (not-is false B x) in
    let p = pow_half B h in
    sym (tail_zeros-of_not false B x) ∙ upper-none B (bitwise_not false B x) h (not-in_range false B x h) (omega (arith, ints))

pub leading_ones-some : (s : Bool) (B : ℕ) (x : ℤ) → 1 ≤ B → InRange s B x → pos (2 ^ (B - 1)) ≤ℤ x → 1 ≤ suffix_len (beq true) (bits B x)
leading_ones-some true B x h f g = let t = f.high in absurd (omega (arith, ints))
leading_ones-some false B x h f g =
    let e = not-unsigned false B x (bitwise_not false B x) refl h f (not-is false B x) in
    let t = f.high in
    let p = pow_half B h in
    let i = tail_zeros-of_not false B x in
    let m = lower-some false B (bitwise_not false B x) h (not-in_range false B x h) (omega (arith, ints)) (omega (arith, ints)) in
    omega arith

pub leading_ones-negative : (s : Bool) (B : ℕ) (x : ℤ) → 1 ≤ B → InRange s B x → x <ℤ pos 0 → 1 ≤ suffix_len (beq true) (bits B x)
leading_ones-negative false B x h f g = let l = f.low in absurd (omega (arith, ints))
leading_ones-negative true B x h f g =
    let e = not-signed true B x (bitwise_not true B x) refl h f (not-is true B x) in
    let l = f.low in
    let i = tail_zeros-of_not true B x in
    let m = lower-some true B (bitwise_not true B x) h (not-in_range true B x h) (omega (arith, ints)) (omega (arith, ints)) in
    omega arith

pub leading_ones-found : (s : Bool) (B : ℕ) (x : ℤ) → 1 ≤ B → InRange s B x → x ≢ pos (2 ^ B) -ℤ pos 1 → x ≢ neg_ℤ (pos 1) → suffix_len (beq true) (bits B x) < B
leading_ones-found s B x h f d g =
    let i = tail_zeros-of_not s B x in
    let l = leading-found s B (bitwise_not s B x) h (not-in_range s B x h) (not-zero s B x h f d g) in
    omega arith

-- ---- ones at the low end

pub trailing_ones-found : (s : Bool) (B : ℕ) (x : ℤ) → 1 ≤ B → InRange s B x → x ≢ pos (2 ^ B) -ℤ pos 1 → x ≢ neg_ℤ (pos 1) → prefix_len (beq true) (bits B x) < B
trailing_ones-found s B x h f d g =
    let i = front_zeros-of_not s B x in
    let l = trailing-found s B (bitwise_not s B x) h (not-in_range s B x h) (not-zero s B x h f d g) in
    omega arith

-- ---- how many

pub zeros-some : (s : Bool) (B : ℕ) (x : ℤ) → 1 ≤ B → InRange s B x → x ≢ pos (2 ^ B) -ℤ pos 1 → x ≢ neg_ℤ (pos 1) → 1 ≤ B - count_by (λ b. b) (bits B x)
zeros-some s B x h f d g =
    let i = popcount-of_not s B x in
    let m = popcount-some s B (bitwise_not s B x) h (not-in_range s B x h) (not-zero s B x h f d g) in
    omega arith

-- ---- the lowest bit

lowest : (k : ℕ) (x : ℤ) → bits (suc k) x ≡ ((unsigned_abs x % 2 == 1) ∷ bits k (int_div_euclid x (pos 2)))
unfolding bits
lowest k x = refl

even-is : (x : ℤ) → Congruent 1 x (pos 0) → unsigned_abs x % 2 ≡ 0
even-is x c = let e : int_rem_euclid x (pos 2) ≡ pos 0 = c.remainders in grind (arith, ints)

odd-is : (x : ℤ) → Congruent 1 x (pos 1) → unsigned_abs x % 2 ≡ 1
odd-is x c = let e : int_rem_euclid x (pos 2) ≡ pos 1 = c.remainders in grind (arith, ints)

-- by the remainder
pub trailing_ones-lowest_clear : (B : ℕ) (x : ℤ) → 1 ≤ B → unsigned_abs x % 2 ≡ 0 → prefix_len (beq true) (bits B x) ≡ 0
trailing_ones-lowest_clear zero x h e = absurd (omega arith)
trailing_ones-lowest_clear (suc k) x h e = ap (prefix_len (beq true)) (lowest k x) ∙ rw e refl

pub trailing_ones-lowest_set : (B : ℕ) (x : ℤ) → 1 ≤ B → unsigned_abs x % 2 ≡ 1 → 1 ≤ prefix_len (beq true) (bits B x)
trailing_ones-lowest_set zero x h e = absurd (omega arith)
trailing_ones-lowest_set (suc k) x h e =
    let d : prefix_len (beq true) (bits (suc k) x) ≡ 1 + prefix_len (beq true) (bits k (int_div_euclid x (pos 2))) = ap (prefix_len (beq true)) (lowest k x) ∙ rw e refl in
    omega arith

pub trailing_zeros-lowest_set : (B : ℕ) (x : ℤ) → 1 ≤ B → unsigned_abs x % 2 ≡ 1 → prefix_len (beq false) (bits B x) ≡ 0
trailing_zeros-lowest_set zero x h e = absurd (omega arith)
trailing_zeros-lowest_set (suc k) x h e = ap (prefix_len (beq false)) (lowest k x) ∙ rw e refl

pub trailing_zeros-lowest_clear : (B : ℕ) (x : ℤ) → 1 ≤ B → unsigned_abs x % 2 ≡ 0 → 1 ≤ prefix_len (beq false) (bits B x)
trailing_zeros-lowest_clear zero x h e = absurd (omega arith)
trailing_zeros-lowest_clear (suc k) x h e =
    let d : prefix_len (beq false) (bits (suc k) x) ≡ 1 + prefix_len (beq false) (bits k (int_div_euclid x (pos 2))) = ap (prefix_len (beq false)) (lowest k x) ∙ rw e refl in
    omega arith

-- and by a congruence
pub trailing_ones-even : (B : ℕ) (x : ℤ) → 1 ≤ B → Congruent 1 x (pos 0) → prefix_len (beq true) (bits B x) ≡ 0
trailing_ones-even B x h c = trailing_ones-lowest_clear B x h (even-is x c)

pub trailing_ones-odd : (B : ℕ) (x : ℤ) → 1 ≤ B → Congruent 1 x (pos 1) → 1 ≤ prefix_len (beq true) (bits B x)
trailing_ones-odd B x h c = trailing_ones-lowest_set B x h (odd-is x c)

pub trailing_zeros-odd : (B : ℕ) (x : ℤ) → 1 ≤ B → Congruent 1 x (pos 1) → prefix_len (beq false) (bits B x) ≡ 0
trailing_zeros-odd B x h c = trailing_zeros-lowest_set B x h (odd-is x c)

pub trailing_zeros-even : (B : ℕ) (x : ℤ) → 1 ≤ B → Congruent 1 x (pos 0) → 1 ≤ prefix_len (beq false) (bits B x)
trailing_zeros-even B x h c = trailing_zeros-lowest_clear B x h (even-is x c)

-- ---- -1, whose bits are all one

pub leading_ones-minus_one : (B : ℕ) (x : ℤ) → x ≡ neg_ℤ (pos 1) → suffix_len (beq true) (bits B x) ≡ B
leading_ones-minus_one B x e = ap (λ (z : ℤ). suffix_len (beq true) (bits B z)) e ∙ tail-of_minus_one B

pub trailing_ones-minus_one : (B : ℕ) (x : ℤ) → x ≡ neg_ℤ (pos 1) → prefix_len (beq true) (bits B x) ≡ B
trailing_ones-minus_one B x e = ap (λ (z : ℤ). prefix_len (beq true) (bits B z)) e ∙ front-of_minus_one B

pub popcount-minus_one : (B : ℕ) (x : ℤ) → x ≡ neg_ℤ (pos 1) → count_by (λ b. b) (bits B x) ≡ B
popcount-minus_one B x e = ap (λ (z : ℤ). count_by (λ b. b) (bits B z)) e ∙ popcount-of_minus_one B
