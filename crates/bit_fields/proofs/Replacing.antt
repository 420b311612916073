-- Why masks and shifts write a field of a word.
use Rattle.std.proofs.Common.{◌≡◌, ℕ, ◌+◌, ◌-◌, ◌*◌, ◌/◌, ◌%◌, ◌^◌, ◌≤◌, ◌<◌, ◌++◌, length, take, drop, length-append, length-take, pos, refl, sym, ap, ◌∙◌, subst, arith, mod-lt, mod-eq_of_lt, pow-add, lt_of_lt_of_le, bit_and, bit_or}
use Rattle.std.proofs.Math.Nat.{div-add-mod', div-div-eq-div-mul, div-lt_iff_lt-mul, mul-lt-mul_of_pos_right}
use Rattle.std.proofs.lemmas.Nat.{pow_pos, and_block, or_block, or_shifted, and_mask}
use Rattle.std.specs.Int.Bits.{and_zero_r, or_zero_r}
use Rattle.arbitrary_int.specs.BitList.{bits, num}
use Rattle.arbitrary_int.proofs.UnsignedNumber.{length-bits, num-bits_small, num-append, num-take, num-drop}
use Rattle.bit_fields.specs.BitField.{with_field}

-- the number of a list with another in its middle
pub num-placed : (r s k v : ℕ) → r < 2 ^ 128 → s + k ≤ 128 → v < 2 ^ k
    → with_field r s (bits k (pos v)) ≡ r % 2 ^ s + 2 ^ s * v + 2 ^ (s + k) * (r / 2 ^ (s + k))
unfolding with_field
num-placed r s k v h g f =
    let b = bits 128 (pos r) in
    let n : num b ≡ r = num-bits_small 128 r h in
    let m : length (take s b ++ bits k (pos v)) ≡ s + k = simp (length-append, length-take, length-bits) (omega arith) in
    let o : length (take s b) ≡ s = simp (length-take, length-bits) (omega arith) in
    num-append (take s b ++ bits k (pos v)) (drop (s + length (bits k (pos v))) b)
    ∙ rw (m, num-append (take s b) (bits k (pos v)), o, num-take s b, num-drop (s + length (bits k (pos v))) b, length-bits k (pos v), n, num-bits_small k v f) refl

room-of : (J K P : ℕ) → 0 < J → K * P ≤ J * K * P
room-of J K P h =
    let q : J ≡ (J - 1) + 1 = omega arith in
    let t : J * K * P ≡ ((J - 1) + 1) * K * P = ap (λ (i : ℕ). i * K * P) q in
    omega arith

masks : (o K P W : ℕ) → 0 < P → o + 1 ≡ K → K * P ≤ W → o * P < W
masks o K P W h e g = let d : (o + 1) * P ≡ K * P = ap (λ (i : ℕ). i * P) e in omega arith

shifted-fits : (v K P W : ℕ) → 0 < P → v < K → K * P ≤ W → v * P < W
shifted-fits v K P W h g l = lt_of_lt_of_le (mul-lt-mul_of_pos_right g h) l

complement : (o K P J W M : ℕ) → 0 < J → 0 < P → o + 1 ≡ K → M + 1 ≡ W → W ≡ J * K * P → M - o * P ≡ ((J - 1) * K) * P + (P - 1)
complement o K P J W M j h e m s =
    let d : (o + 1) * P ≡ K * P = ap (λ (i : ℕ). i * P) e in
    let q : J ≡ (J - 1) + 1 = omega arith in
    let t : J * K * P ≡ ((J - 1) + 1) * K * P = ap (λ (i : ℕ). i * K * P) q in
    omega arith

-- a number in three parts: those below place s, the k above these, and the rest
stays-middle : (s k j a a0 p o c : ℕ) → p < 2 ^ s → a0 < 2 ^ k → a < 2 ^ j → o + 1 ≡ 2 ^ k → c ≡ (2 ^ j - 1) * 2 ^ k
    → bit_and ((a * 2 ^ k + a0) * 2 ^ s + p) (c * 2 ^ s + (2 ^ s - 1)) ≡ (a * 2 ^ k) * 2 ^ s + p
stays-middle s k j a a0 p o c h g f e d =
    let q = pow_pos s in
    let last : 2 ^ s - 1 < 2 ^ s = omega arith in
    let zero' : 0 < 2 ^ k = pow_pos k in
    let upper : bit_and (a * 2 ^ k + a0) c ≡ a * 2 ^ k =
    ap (bit_and (a * 2 ^ k + a0)) (let e : c ≡ (2 ^ j - 1) * 2 ^ k + 0 = omega arith in e)
    ∙ and_block k a (2 ^ j - 1) a0 0 g zero'
    ∙ rw (and_mask a j, and_zero_r a0, mod-eq_of_lt f) (omega arith) in
    let lower : bit_and p (2 ^ s - 1) ≡ p = and_mask p s ∙ mod-eq_of_lt h in
    and_block s (a * 2 ^ k + a0) c p (2 ^ s - 1) h last ∙ rw (upper, lower) refl

put-middle : (s k a v p : ℕ) → p < 2 ^ s → v < 2 ^ k → bit_or ((a * 2 ^ k) * 2 ^ s + p) (v * 2 ^ s) ≡ (a * 2 ^ k + v) * 2 ^ s + p
put-middle s k a v p h g =
    ap (bit_or ((a * 2 ^ k) * 2 ^ s + p)) (let e : v * 2 ^ s ≡ v * 2 ^ s + 0 = omega arith in e)
    ∙ or_block s (a * 2 ^ k) v p 0 h (pow_pos s)
    ∙ rw (or_shifted a k v g, or_zero_r p) refl

below-power : (x a b n : ℕ) → x < 2 ^ n → a + b ≤ n → 2 ^ (n - b) ≡ 2 ^ (n - (a + b)) * 2 ^ a
below-power x a b n h g = ap (λ (i : ℕ). 2 ^ i) (let e : n - b ≡ (n - (a + b)) + a = omega arith in e) ∙ pow-add 2 (n - (a + b)) a

div-below : (x b n : ℕ) → x < 2 ^ n → b ≤ n → x / 2 ^ b < 2 ^ (n - b)
div-below x b n h g = (div-lt_iff_lt-mul (pow_pos b)).1 (subst (λ (i : ℕ). x < i) (ap (λ (i : ℕ). 2 ^ i) (let e : n ≡ (n - b) + b = omega arith in e) ∙ pow-add 2 (n - b) b) h)

-- W is 2 ^ 128 and M one less, which goals write as numerals
pub replaced-is : (r s k v o W M : ℕ) → W ≡ 2 ^ 128 → M + 1 ≡ 2 ^ 128 → r < 2 ^ 128 → s + k ≤ 128 → v < 2 ^ k → o + 1 ≡ 2 ^ k
    → bit_or (bit_and r (M - o * 2 ^ s % W)) (v * 2 ^ s % W) ≡ with_field r s (bits k (pos v))
replaced-is r s k v o W M w m h g small e =
    let j = 128 - (k + s) in
    let ps = pow_pos s in
    let pk = pow_pos k in
    let pj = pow_pos j in
    let low : ℕ = r % 2 ^ s in
    let high : ℕ = r / 2 ^ s in
    let a : ℕ = high / 2 ^ k in
    let split : 2 ^ 128 ≡ 2 ^ j * 2 ^ k * 2 ^ s = (let d : 128 ≡ (128 - s) + s = omega arith in ap (λ (i : ℕ). 2 ^ i) d ∙ pow-add 2 (128 - s) s ∙ ap (λ (i : ℕ). i * 2 ^ s) (below-power r k s 128 h (omega arith))) in
    let c : ℕ = (2 ^ j - 1) * 2 ^ k in
    let room : 2 ^ k * 2 ^ s ≤ 2 ^ 128 = rw split (room-of (2 ^ j) (2 ^ k) (2 ^ s) pj) in
    let mask_fits : o * 2 ^ s < 2 ^ 128 = masks o (2 ^ k) (2 ^ s) (2 ^ 128) ps e room in
    let field_fits : v * 2 ^ s < 2 ^ 128 = shifted-fits v (2 ^ k) (2 ^ s) (2 ^ 128) ps small room in
    let mask_is : o * 2 ^ s % W ≡ o * 2 ^ s = rw w (mod-eq_of_lt mask_fits) in
    let field_is : v * 2 ^ s % W ≡ v * 2 ^ s = rw w (mod-eq_of_lt field_fits) in
    let rest : M - o * 2 ^ s ≡ c * 2 ^ s + (2 ^ s - 1) = complement o (2 ^ k) (2 ^ s) (2 ^ j) (2 ^ 128) M pj ps e m split in
    let parts : r ≡ (a * 2 ^ k + high % 2 ^ k) * 2 ^ s + low = sym (ap (λ (i : ℕ). i * 2 ^ s + low) (div-add-mod' high (2 ^ k)) ∙ div-add-mod' r (2 ^ s)) in
    let top : a < 2 ^ j = subst (λ (i : ℕ). a < 2 ^ i) (let d : 128 - s - k ≡ 128 - (k + s) = omega arith in d) (div-below high k (128 - s) (div-below r s 128 h (omega arith)) (omega arith)) in
    let stays : bit_and r (M - o * 2 ^ s % W) ≡ (a * 2 ^ k) * 2 ^ s + low =
    (λ i. bit_and (parts i) ((ap (λ (n : ℕ). M - n) mask_is ∙ rest) i))
    ∙ stays-middle s k j a (high % 2 ^ k) low o c (mod-lt r ps) (mod-lt high pk) top e refl in
    let code : bit_or (bit_and r (M - o * 2 ^ s % W)) (v * 2 ^ s % W) ≡ (a * 2 ^ k + v) * 2 ^ s + low =
    (λ i. bit_or (stays i) (field_is i)) ∙ put-middle s k a v low (mod-lt r ps) small in
    let above : r / 2 ^ (s + k) ≡ a = ap (λ (i : ℕ). r / i) (pow-add 2 s k) ∙ sym (div-div-eq-div-mul r (2 ^ s) (2 ^ k)) in
    code ∙ sym (num-placed r s k v h g small ∙ rw (above, pow-add 2 s k) (omega arith))
