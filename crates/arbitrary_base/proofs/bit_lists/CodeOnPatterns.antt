-- The code on a pattern computes an operation on its bits.
use Rattle.std.proofs.Common.{◌≡◌, ℕ, ◌+◌, ◌-◌, ◌*◌, ◌/◌, ◌%◌, ◌^◌, ◌<◌, ◌≤◌, min, true, false, ◌++◌, reverse, length, replicate, pos, refl, sym, ap, ap₂, ◌∙◌, subst, arith, mod-lt, mod-eq_of_lt, length-append, lt_of_lt_of_le, div-one}
use Rattle.std.specs.Bool.{beq}
use Rattle.std.specs.List.{slice_rotate_right, count_by, prefix_len, suffix_len}
use Rattle.std.specs.Prelude.{map, not}
use Rattle.std.proofs.Math.Nat.{mul-one, div-eq_of_lt, mul-mod_left, mul-div_cancel_left}
use Rattle.std.proofs.Math.Pow.{pow_pos, mod-mod-pow, pow_mono}
use Rattle.std.proofs.lemmas.Nat.{shr_below, shr_split}
use Rattle.std.proofs.lemmas.List.{length-replicate, length-reverse, reverse-append}
use Rattle.std.specs.Int.{reverse_bits_onto}
use Rattle.std.specs.Int.Bits.{bit_and, bit_or, bit_xor, and_mask, or_shifted, or_shifted_r, xor_add_and}
use Rattle.std.specs.Int.Count.{ones as count_ones, count_trailing_zeros, count_leading_zeros}
use Rattle.arbitrary_base.specs.BitList.{bits, num, bits_and, bits_or, bits_xor}
use Rattle.arbitrary_base.proofs.bit_lists.UnsignedNumber.{length-bits, same_length, length-not, num-bits_small, bits-num_of, num-lt_of, same_num, num-not, num-and, num-or, num-xor, num-append, num-zeros}
use Rattle.arbitrary_base.proofs.bit_lists.Movement.{num-reverse_onto, num-reverse_zeros, num-rotl, num-rotr, shl-mod, rotr}
use Rattle.arbitrary_base.proofs.bit_lists.Count.{popcount-num, trailing-num, leading-num, leading-wide, front-append, front-not, tail-not}

-- m is the pattern of w ones: this is what `truncation::low_mask` says of its result
and-low_mask : (w p m : ℕ) → m + 1 ≡ 2 ^ w → bit_and p m ≡ p % 2 ^ w
and-low_mask w p m e = let o : m ≡ 2 ^ w - 1 = omega arith in ap (bit_and p) o ∙ and_mask p w

-- shifted at 128 bits and cut to w
shifted : (w p k m : ℕ) → w ≤ 128 → k ≤ w → m + 1 ≡ 2 ^ w → bit_and (p * 2 ^ k % 2 ^ 128) m ≡ p * 2 ^ k % 2 ^ w
shifted w p k m b h e = and-low_mask w (p * 2 ^ k % 2 ^ 128) m e ∙ narrow (p * 2 ^ k) 128 w b
  where
    narrow : (n v w : ℕ) → w ≤ v → n % 2 ^ v % 2 ^ w ≡ n % 2 ^ w
    narrow n v w h = ap (λ (x : ℕ). n % 2 ^ x % 2 ^ w) (let e : v ≡ (v - w) + w = omega arith in e) ∙ mod-mod-pow n (v - w) w

-- ---- item by item

pub and_pattern : (w p q : ℕ) → p < 2 ^ w → q < 2 ^ w → bit_and p q ≡ num (bits_and (bits w (pos p)) (bits w (pos q)))
and_pattern w p q h k = sym (num-and (bits w (pos p)) (bits w (pos q)) ∙ ap₂ bit_and (num-bits_small w p h) (num-bits_small w q k))

pub or_pattern : (w p q : ℕ) → p < 2 ^ w → q < 2 ^ w → bit_or p q ≡ num (bits_or (bits w (pos p)) (bits w (pos q)))
or_pattern w p q h k =
    sym (num-or (bits w (pos p)) (bits w (pos q)) (same_length w (pos p) (pos q)) ∙ ap₂ bit_or (num-bits_small w p h) (num-bits_small w q k))

pub xor_pattern : (w p q : ℕ) → p < 2 ^ w → q < 2 ^ w → bit_xor p q ≡ num (bits_xor (bits w (pos p)) (bits w (pos q)))
xor_pattern w p q h k =
    sym (num-xor (bits w (pos p)) (bits w (pos q)) (same_length w (pos p) (pos q)) ∙ ap₂ bit_xor (num-bits_small w p h) (num-bits_small w q k))

num-not_of : (w p : ℕ) → p < 2 ^ w → num (map not (bits w (pos p))) ≡ 2 ^ w - 1 - p
num-not_of w p h =
    omega (arith, num-not (bits w (pos p)), num-bits_small w p h, ap (λ (n : ℕ). 2 ^ n) (length-bits w (pos p)))

pub not_pattern : (w p m : ℕ) → p < 2 ^ w → m + 1 ≡ 2 ^ w → bit_xor p m ≡ num (map not (bits w (pos p)))
not_pattern w p m h e =
    let a : bit_and p m ≡ p = and-low_mask w p m e ∙ mod-eq_of_lt h in
    rw (num-not_of w p h) (omega (arith, xor_add_and p m))

length-not_of : (w p : ℕ) → length (map not (bits w (pos p))) ≡ w
length-not_of w p = length-not (bits w (pos p)) ∙ length-bits w (pos p)

not_bits : (w p q : ℕ) → q ≡ num (map not (bits w (pos p))) → bits w (pos q) ≡ map not (bits w (pos p))
not_bits w p q e = rw e (bits-num_of w (map not (bits w (pos p))) (length-not_of w p))

pub not_fits : (w p q : ℕ) → q ≡ num (map not (bits w (pos p))) → q < 2 ^ w
not_fits w p q e = rw e (num-lt_of w (map not (bits w (pos p))) (length-not_of w p))

-- ---- rotations

rotl_at : (w p k : ℕ) → p < 2 ^ w → k ≤ w → num (slice_rotate_right (bits w (pos p)) k) ≡ p / 2 ^ (w - k) + p * 2 ^ k % 2 ^ w
rotl_at w p k h l =
    num-rotl (bits w (pos p)) k (omega (arith, length-bits w (pos p))) ∙ rw (num-bits_small w p h, length-bits w (pos p)) refl

pub rotl_pattern_zero : (w p k : ℕ) → p < 2 ^ w → k ≡ 0 → p ≡ num (slice_rotate_right (bits w (pos p)) k)
rotl_pattern_zero w p k h e =
    rw (e, rotl_at w p 0 h (omega arith), let z : w - 0 ≡ w = omega arith in z, div-eq_of_lt h, mul-one p, mod-eq_of_lt h) (omega arith)

-- the two parts of a rotation share no bit
pub rotl_pattern : (w p k m : ℕ) → w ≤ 128 → p < 2 ^ w → k < w → m + 1 ≡ 2 ^ w
    → bit_or (bit_and (p * 2 ^ k % 2 ^ 128) m) (p / 2 ^ (w - k)) ≡ num (slice_rotate_right (bits w (pos p)) k)
rotl_pattern w p k m b h l e =
    let small : p / 2 ^ (w - k) < 2 ^ k = shr_below p k (w - k) (subst (λ (x : ℕ). p < 2 ^ x) (let d : w ≡ k + (w - k) = omega arith in d) h) in
    rw (shifted w p k m b (omega arith) e, rotl_at w p k h (omega arith), shl-mod p k w (omega arith), or_shifted (p % 2 ^ (w - k)) k (p / 2 ^ (w - k)) small) (omega arith)

rotr_at : (w p k : ℕ) → p < 2 ^ w → k ≤ w → num (rotr (bits w (pos p)) k) ≡ p / 2 ^ k + p * 2 ^ (w - k) % 2 ^ w
rotr_at w p k h l =
    num-rotr (bits w (pos p)) k (omega (arith, length-bits w (pos p))) ∙ rw (num-bits_small w p h, length-bits w (pos p)) refl

pub rotr_pattern_zero : (w p k : ℕ) → p < 2 ^ w → k ≡ 0 → p ≡ num (rotr (bits w (pos p)) k)
rotr_pattern_zero w p k h e =
    rw (e, rotr_at w p 0 h (omega arith), let z : w - 0 ≡ w = omega arith in z, mul-mod_left p (2 ^ w), div-one p) (omega arith)

pub rotr_pattern : (w p k m : ℕ) → w ≤ 128 → p < 2 ^ w → k < w → m + 1 ≡ 2 ^ w
    → bit_or (p / 2 ^ k) (bit_and (p * 2 ^ (w - k) % 2 ^ 128) m) ≡ num (rotr (bits w (pos p)) k)
rotr_pattern w p k m b h l e =
    let small : p / 2 ^ k < 2 ^ (w - k) = shr_below p (w - k) k (subst (λ (x : ℕ). p < 2 ^ x) (let d : w ≡ (w - k) + k = omega arith in d) h) in
    rw (shifted w p (w - k) m b (omega arith) e, rotr_at w p k h (omega arith), shl-mod p (w - k) w (omega arith), or_shifted_r (p % 2 ^ (w - (w - k))) (w - k) (p / 2 ^ k) small) (omega arith)

-- ---- in a wider pattern, with zeros above

wider : (w v p : ℕ) → w ≤ v → p < 2 ^ w → p < 2 ^ v
wider w v p h k = lt_of_lt_of_le k (pow_mono h)

wide_bits : (w v p : ℕ) → w ≤ v → p < 2 ^ w → bits v (pos p) ≡ bits w (pos p) ++ replicate (v - w) false
wide_bits w v p h k =
    same_num (bits v (pos p)) (bits w (pos p) ++ replicate (v - w) false)
    (simp (length-bits, length-append, length-replicate) (omega arith))
    (num-bits_small v p (wider w v p h k)
    ∙ sym (num-append (bits w (pos p)) (replicate (v - w) false) ∙ rw (num-bits_small w p k, num-zeros (v - w)) (omega arith)))

-- ---- reversal

reversed-num : (k n : ℕ) → n < 2 ^ k → reverse_bits_onto k n 0 ≡ num (reverse (bits k (pos n)))
reversed-num k n h =
    ap₂ (λ (i q : ℕ). reverse_bits_onto i q 0) (sym (length-bits k (pos n))) (sym (num-bits_small k n h))
    ∙ num-reverse_onto (bits k (pos n)) 0 ∙ omega arith

-- the low k bits, then the high ones
halves : (k n : ℕ) → n < 2 ^ (k + k) → bits (k + k) (pos n) ≡ bits k (pos (n % 2 ^ k)) ++ bits k (pos (n / 2 ^ k))
halves k n h =
    same_num (bits (k + k) (pos n)) (bits k (pos (n % 2 ^ k)) ++ bits k (pos (n / 2 ^ k)))
    (simp (length-bits, length-append) (omega arith))
    (num-bits_small (k + k) n h
    ∙ sym (num-append (bits k (pos (n % 2 ^ k))) (bits k (pos (n / 2 ^ k))) ∙ rw (num-bits_small k (n % 2 ^ k) (mod-lt n (pow_pos k)), num-bits_small k (n / 2 ^ k) (shr_below n k k h), length-bits k (pos (n % 2 ^ k))) (omega (arith, shr_split n k))))

-- the low half reversed comes above the high half reversed
pub reverse_halves : (k n m p q : ℕ) → n < 2 ^ (k + k) → m + 1 ≡ 2 ^ k → p < 2 ^ k → q < 2 ^ k
    → p ≡ reverse_bits_onto k (bit_and n m) 0 → q ≡ reverse_bits_onto k (n / 2 ^ k) 0
    → bit_or (p * 2 ^ k % 2 ^ (k + k)) q ≡ reverse_bits_onto (k + k) n 0
reverse_halves k n m p q h e p-lt q-lt f g =
    let low : p ≡ num (reverse (bits k (pos (n % 2 ^ k)))) = f ∙ rw (and-low_mask k n m e) (reversed-num k (n % 2 ^ k) (mod-lt n (pow_pos k))) in
    let high : q ≡ num (reverse (bits k (pos (n / 2 ^ k)))) = g ∙ reversed-num k (n / 2 ^ k) (shr_below n k k h) in
    let whole : reverse_bits_onto (k + k) n 0 ≡ q + 2 ^ k * p =
    reversed-num (k + k) n h
    ∙ rw (halves k n h, reverse-append (bits k (pos (n % 2 ^ k))) (bits k (pos (n / 2 ^ k))), num-append (reverse (bits k (pos (n / 2 ^ k)))) (reverse (bits k (pos (n % 2 ^ k)))), length-reverse (bits k (pos (n / 2 ^ k))), length-bits k (pos (n / 2 ^ k)), ← low, ← high) refl in
    let same : k + k - k ≡ k = omega arith in
    rw (shl-mod p k (k + k) (omega arith), same, mod-eq_of_lt p-lt, or_shifted p k q q-lt, whole) (omega arith)

pub reverse_pattern : (v w p r : ℕ) → w ≤ v → p < 2 ^ w → r ≡ reverse_bits_onto v p 0 → r / 2 ^ (v - w) ≡ num (reverse (bits w (pos p)))
reverse_pattern v w p r b h e =
    let whole : r ≡ 2 ^ (v - w) * num (reverse (bits w (pos p))) =
    e ∙ reversed-num v p (wider w v p b h)
    ∙ rw (wide_bits w v p b h, reverse-append (bits w (pos p)) (replicate (v - w) false), num-append (reverse (replicate (v - w) false)) (reverse (bits w (pos p))), num-reverse_zeros (v - w), length-reverse (replicate (v - w) false), length-replicate (v - w) false) (omega arith) in
    ap (λ (x : ℕ). x / 2 ^ (v - w)) whole ∙ mul-div_cancel_left (num (reverse (bits w (pos p)))) (pow_pos (v - w))

-- moved up first, it comes out at the low end
raised_bits : (w v p : ℕ) → w ≤ v → p < 2 ^ w → p * 2 ^ (v - w) < 2 ^ v → bits v (pos (p * 2 ^ (v - w))) ≡ replicate (v - w) false ++ bits w (pos p)
raised_bits w v p h k f =
    same_num (bits v (pos (p * 2 ^ (v - w)))) (replicate (v - w) false ++ bits w (pos p))
    (simp (length-bits, length-append, length-replicate) (omega arith))
    (num-bits_small v (p * 2 ^ (v - w)) f
    ∙ sym (num-append (replicate (v - w) false) (bits w (pos p)) ∙ rw (num-bits_small w p k, num-zeros (v - w), length-replicate (v - w) false) (omega arith)))

pub reverse_raised : (v w p r : ℕ) → w ≤ v → p < 2 ^ w → r ≡ reverse_bits_onto v (p * 2 ^ (v - w) % 2 ^ v) 0 → r ≡ num (reverse (bits w (pos p)))
reverse_raised v w p r b h e =
    let same : v - (v - w) ≡ w = omega arith in
    let kept : p * 2 ^ (v - w) % 2 ^ v ≡ p * 2 ^ (v - w) = rw (shl-mod p (v - w) v (omega arith), same, mod-eq_of_lt h) refl in
    let fits : p * 2 ^ (v - w) < 2 ^ v = subst (λ (x : ℕ). x < 2 ^ v) kept (mod-lt (p * 2 ^ (v - w)) (pow_pos v)) in
    e ∙ ap (λ (x : ℕ). reverse_bits_onto v x 0) kept ∙ reversed-num v (p * 2 ^ (v - w)) fits
    ∙ rw (raised_bits w v p b h fits, reverse-append (replicate (v - w) false) (bits w (pos p)), num-append (reverse (bits w (pos p))) (reverse (replicate (v - w) false)), num-reverse_zeros (v - w)) (omega arith)

-- ---- counts

pub ones_pattern : (w p : ℕ) → p < 2 ^ w → count_ones p ≡ count_by (λ b. b) (bits w (pos p))
ones_pattern w p h = ap count_ones (sym (num-bits_small w p h)) ∙ popcount-num (bits w (pos p))

pub trailing_pattern : (w p : ℕ) → w ≤ 128 → p < 2 ^ w → min (count_trailing_zeros 128 p) w ≡ prefix_len (beq false) (bits w (pos p))
trailing_pattern w p b h =
    let t : count_trailing_zeros 128 p ≡ prefix_len (beq false) (bits 128 (pos p)) =
    ap₂ count_trailing_zeros (sym (length-bits 128 (pos p))) (sym (num-bits_small 128 p (wider w 128 p b h))) ∙ trailing-num (bits 128 (pos p)) in
    rw (t, wide_bits w 128 p b h)
    (omega (arith, front-append (bits w (pos p)) (replicate (128 - w) false), length-bits w (pos p)))

pub leading_pattern : (w p : ℕ) → w ≤ 128 → p < 2 ^ w → count_leading_zeros 128 p ≡ (128 - w) + suffix_len (beq false) (bits w (pos p))
leading_pattern w p b h =
    let t : count_leading_zeros w p ≡ suffix_len (beq false) (bits w (pos p)) =
    ap₂ count_leading_zeros (sym (length-bits w (pos p))) (sym (num-bits_small w p h)) ∙ leading-num (bits w (pos p)) in
    ap (λ (n : ℕ). count_leading_zeros n p) (let e : 128 ≡ (128 - w) + w = omega arith in e)
    ∙ leading-wide (128 - w) w p h ∙ ap (λ (n : ℕ). (128 - w) + n) t

-- the counts of ones go by the pattern turned over
pub trailing_ones_pattern : (w p q r : ℕ) → q ≡ num (map not (bits w (pos p))) → r ≡ prefix_len (beq false) (bits w (pos q)) → r ≡ prefix_len (beq true) (bits w (pos p))
trailing_ones_pattern w p q r e h = h ∙ ap (prefix_len (beq false)) (not_bits w p q e) ∙ sym (front-not (bits w (pos p)))

pub leading_ones_pattern : (w p q r : ℕ) → q ≡ num (map not (bits w (pos p))) → r ≡ suffix_len (beq false) (bits w (pos q)) → r ≡ suffix_len (beq true) (bits w (pos p))
leading_ones_pattern w p q r e h = h ∙ ap (suffix_len (beq false)) (not_bits w p q e) ∙ sym (tail-not (bits w (pos p)))
