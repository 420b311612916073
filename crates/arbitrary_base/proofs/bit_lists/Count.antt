-- Counts of bit lists, compared with std's counts of a number's digits.
use Rattle.std.proofs.Common.{◌≡◌, ℕ, zero, suc, ℤ, ◌+◌, ◌*◌, ◌^◌, ◌<◌, ◌≤◌, min, Bool, true, false, not, List, [], ◌∷◌, ◌++◌, reverse, length, refl, sym, ap, ◌∙◌, subst, arith, lt_of_lt_of_le}
use Rattle.std.specs.Prelude.{map, pos, negsuc, unsigned_abs}
use Rattle.std.specs.List.{count_by, suffix_len, prefix_len}
use Rattle.std.proofs.lemmas.List.{length-reverse, reverse-reverse, map-append}
use Rattle.std.proofs.lemmas.List.Sums.{sum_by-cons, prefix_len-le-length}
use Rattle.std.proofs.lemmas.Int.{ints}
use Rattle.std.proofs.lemmas.Nat.{pow_pos}
use Rattle.std.proofs.Math.Pow.{pow_mono}
use Rattle.std.proofs.Math.Nat.{pow-suc}
use Rattle.std.specs.Bool.{beq}
use Rattle.std.specs.Int.Count.{ones as set_digits, ones_step, count_leading_zeros, count_trailing_zeros, leading_of_zero, leading_length, leading_unique}
use Rattle.arbitrary_base.specs.Range.{InRange}
use Rattle.arbitrary_base.specs.BitList.{bits, num}
use Rattle.arbitrary_base.proofs.bit_lists.UnsignedNumber.{digit, length-bits, num-bits_small, num-lt_of, num-append, cons-mod, cons-div}
use Rattle.arbitrary_base.proofs.bit_lists.Movement.{reverse-cons}

pub popcount-cons : (b : Bool) (l : List Bool) → count_by (λ b. b) (b ∷ l) ≡ digit b + count_by (λ b. b) l
popcount-cons b l = sum_by-cons digit b l

pub popcount-num : (l : List Bool) → set_digits (num l) ≡ count_by (λ b. b) l
unfolding set_digits
popcount-num [] = refl
popcount-num (b ∷ l) = ones_step (num (b ∷ l)) ∙ rw (cons-mod b (num l), cons-div b (num l), popcount-num l) (sym (popcount-cons b l))

-- of a number with no sign the bits are its binary digits
pub popcount-plain : (s : Bool) (B : ℕ) (x : ℤ) → InRange s B x → s ≡ false → count_by (λ b. b) (bits B x) ≡ set_digits (unsigned_abs x)
popcount-plain s B (pos n) f d =
    let r = subst (λ (t : Bool). InRange t B (pos n)) d f in
    let high = r.high in
    let o = pow_pos B in
    sym (popcount-num (bits B (pos n))) ∙ ap set_digits (num-bits_small B n (omega (arith, ints)))
popcount-plain s B (negsuc n) f d =
    let r = subst (λ (t : Bool). InRange t B (negsuc n)) d f in
    let low = r.low in
    absurd (omega (arith, ints))

pub popcount-not : (l : List Bool) → count_by (λ b. b) l + count_by (λ b. b) (map not l) ≡ length l
popcount-not [] = refl
popcount-not (b ∷ l) =
    let turned : count_by (λ b. b) (map not (b ∷ l)) ≡ digit (not b) + count_by (λ b. b) (map not l) = popcount-cons (not b) (map not l) in
    let one : digit b + digit (not b) ≡ 1 = one-of b in
    omega (arith, popcount-cons b l, turned, one, popcount-not l)
  where
    one-of : (b : Bool) → digit b + digit (not b) ≡ 1
    one-of true = refl
    one-of false = refl

pub tail-le : (b : Bool) (l : List Bool) → suffix_len (beq b) l ≤ length l
tail-le b l = omega (arith, prefix_len-le-length (beq b) (reverse l), length-reverse l)

-- ---- ones, by the zeros of what is turned over

pub front-not : (l : List Bool) → prefix_len (beq true) l ≡ prefix_len (beq false) (map not l)
front-not [] = refl
front-not (true ∷ l) = ap (λ (n : ℕ). 1 + n) (front-not l)
front-not (false ∷ l) = refl

reverse-not : (l : List Bool) → reverse (map not l) ≡ map not (reverse l)
reverse-not [] = refl
reverse-not (b ∷ l) =
    reverse-cons (not b) (map not l) ∙ rw (reverse-not l, reverse-cons b l, map-append not (reverse l) (b ∷ [])) refl

pub tail-not : (l : List Bool) → suffix_len (beq true) l ≡ suffix_len (beq false) (map not l)
tail-not l = front-not (reverse l) ∙ ap (prefix_len (beq false)) (sym (reverse-not l))

-- ---- trailing zeros

pub trailing-num : (l : List Bool) → count_trailing_zeros (length l) (num l) ≡ prefix_len (beq false) l
unfolding count_trailing_zeros
trailing-num [] = refl
trailing-num (true ∷ l) = rw (cons-mod true (num l)) refl
trailing-num (false ∷ l) = rw (cons-mod false (num l), cons-div false (num l), trailing-num l) (omega arith)

-- a run that the list bounds
pub front-append : (l m : List Bool) → min (prefix_len (beq false) (l ++ m)) (length l) ≡ prefix_len (beq false) l
front-append [] m = omega arith
front-append (true ∷ l) m = omega arith
front-append (false ∷ l) m = omega (arith, front-append l m)

-- ---- leading zeros

-- one more place at the top: a zero, or a one
leading-more : (k n : ℕ) → n < 2 ^ k → count_leading_zeros (suc k) n ≡ suc (count_leading_zeros k n)
leading-more k n h =
    let t = leading_length k n h in
    sym (leading_unique (suc k) n (suc (count_leading_zeros k n)) t.0 (omega (arith, t.1)) t.2 t.3)

leading-none : (k n : ℕ) → 2 ^ k ≤ n → n < 2 ^ suc k → count_leading_zeros (suc k) n ≡ 0
leading-none k n l h = sym (leading_unique (suc k) n 0 (suc k) (omega arith) h (omega (arith, pow-suc 2 k)))

num-reverse_cons : (b : Bool) (r : List Bool) → num (reverse (b ∷ r)) ≡ num (reverse r) + 2 ^ length r * digit b
num-reverse_cons b r = rw (reverse-cons b r, num-append (reverse r) (b ∷ []), length-reverse r) (omega arith)

num-reverse_lt : (r : List Bool) → num (reverse r) < 2 ^ length r
num-reverse_lt r = num-lt_of (length r) (reverse r) (length-reverse r)

leading-reverse : (r : List Bool) → count_leading_zeros (length r) (num (reverse r)) ≡ prefix_len (beq false) r
leading-reverse [] = leading_of_zero 0
leading-reverse (true ∷ r) =
    leading-none (length r) (num (reverse (true ∷ r))) (omega (arith, num-reverse_cons true r)) (num-reverse_lt (true ∷ r))
leading-reverse (false ∷ r) =
    ap (count_leading_zeros (suc (length r))) (let e : num (reverse (false ∷ r)) ≡ num (reverse r) = omega (arith, num-reverse_cons false r) in e)
    ∙ leading-more (length r) (num (reverse r)) (num-reverse_lt r) ∙ ap suc (leading-reverse r) ∙ omega arith

pub leading-num : (l : List Bool) → count_leading_zeros (length l) (num l) ≡ suffix_len (beq false) l
leading-num l =
    ap (λ (n : ℕ). count_leading_zeros n (num l)) (sym (length-reverse l))
    ∙ subst (λ (m : List Bool). count_leading_zeros (length (reverse l)) (num m) ≡ suffix_len (beq false) l) (reverse-reverse l) (leading-reverse (reverse l))

-- the zeros above, in a wider pattern
pub leading-wide : (d k n : ℕ) → n < 2 ^ k → count_leading_zeros (d + k) n ≡ d + count_leading_zeros k n
leading-wide zero k n h = ap (λ (x : ℕ). count_leading_zeros x n) (let e : 0 + k ≡ k = omega arith in e) ∙ omega arith
leading-wide (suc d) k n h =
    ap (λ (x : ℕ). count_leading_zeros x n) (let e : suc d + k ≡ suc (d + k) = omega arith in e)
    ∙ leading-more (d + k) n (lt_of_lt_of_le h (pow_mono (let e : k ≤ d + k = omega arith in e)))
    ∙ omega (arith, leading-wide d k n h)

-- ---- at most as many as there are bits

pub popcount-fit : (B : ℕ) (x : ℤ) → count_by (λ b. b) (bits B x) ≤ B
popcount-fit B x = let e = popcount-not (bits B x) in let n = length-bits B x in omega arith

pub front-fits : (b : Bool) (B : ℕ) (x : ℤ) → prefix_len (beq b) (bits B x) ≤ B
front-fits b B x = let e = prefix_len-le-length (beq b) (bits B x) in let n = length-bits B x in omega arith

pub tail-fits : (b : Bool) (B : ℕ) (x : ℤ) → suffix_len (beq b) (bits B x) ≤ B
tail-fits b B x = let e = tail-le b (bits B x) in let n = length-bits B x in omega arith
