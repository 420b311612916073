-- The bytes of a number, and the number that bytes represent. The proofs divide by 256 for each byte.
use Rattle.std.specs.Int.{byte_at, bytes_low_first, div_ceil, to_le_bytes, w128}
use Rattle.std.specs.Prelude.{negsuc, true, unsigned_abs}
use Rattle.std.proofs.Common.{Bool, List, [], ap, arith, drop, false, get_or, length, mod-eq_of_lt, pos, refl, subst, suc, sym, take, zero, ℕ, ℤ, ◌%◌, ◌*◌, ◌+◌, ◌/◌, ◌<◌, ◌^◌, ◌∙◌, ◌∷◌, ◌≡◌, ◌≤◌}
use Rattle.std.proofs.Math.Nat.{div-div-eq-div-mul, div-one, mod-one, pow-suc}
use Rattle.std.proofs.lemmas.Int.{ints}
use Rattle.std.proofs.lemmas.List.{get_or-drop, length-drop}
use Rattle.std.proofs.lemmas.Nat.{mod-pow-add, pow-add, pow_pos}
use Rattle.arbitrary_base.specs.BitList.{bits, num}
use Rattle.arbitrary_base.specs.ByteLists.{BorshBytes, Canonical, bytes, bytes_number}
use Rattle.arbitrary_base.specs.Range.{InRange}
use Rattle.arbitrary_base.specs.Residue.{Congruent, residue, wrap}
use Rattle.arbitrary_base.proofs.bit_lists.TwosComplement.{bits-residue, bits-wrap, num-bits_residue}
use Rattle.arbitrary_base.proofs.bit_lists.UnsignedNumber.{num-bits}
use Rattle.arbitrary_base.proofs.modular.Congruence.{pow_le}
use Rattle.arbitrary_base.proofs.modular.Residue.{residue-congruent, residue-lt, wrap-of_in_range, wrap-same}
use Rattle.arbitrary_base.proofs.modular.Truncation.{wrap-residue}
use Rattle.arbitrary_base.proofs.storages.Primitive.{residue-pos, unsigned-in_range}

-- the bytes by division
low_bytes : ℕ → ℕ → List ℕ
low_bytes zero p = []
low_bytes (suc n) p = p % 256 ∷ low_bytes n (p / 256)

-- the first 8 * n items, in eights, each as the number that has these bits
abbrev eights : ℕ → List Bool → List ℕ
eights zero l = []
eights (suc n) l = num (take 8 l) ∷ eights n (drop 8 l)

eights-bits : (n m p : ℕ) → m ≡ 8 * n → eights n (bits m (pos p)) ≡ low_bytes n p
unfolding low_bytes bits
eights-bits zero m p e = refl
eights-bits (suc n) m p e =
    let k : m ≡ suc (suc (suc (suc (suc (suc (suc (suc (8 * n)))))))) = omega arith in
    let first : num (bits 8 (pos p)) ≡ p % 256 = num-bits 8 p in
    let rest : p / 2 / 2 / 2 / 2 / 2 / 2 / 2 / 2 ≡ p / 256 = omega arith in
    rw k (rw (← first) (ap (λ (bs : List ℕ). num (bits 8 (pos p)) ∷ bs) (ap (λ (q : ℕ). eights n (bits (8 * n) (pos q))) rest ∙ eights-bits n (8 * n) (p / 256) refl)))

bytes_low_first-low : (i n p : ℕ) → bytes_low_first i n p ≡ low_bytes n (p / 256 ^ i)
unfolding low_bytes
bytes_low_first-low i zero p = refl
bytes_low_first-low zero (suc n) p =
    rw (div-one p) (ap (λ (bs : List ℕ). p % 256 ∷ bs) (bytes_low_first-low 1 n p))
bytes_low_first-low (suc i) (suc n) p =
    let e : p / 256 ^ suc i / 256 ≡ p / 256 ^ suc (suc i) = div-div-eq-div-mul p (256 ^ suc i) 256 ∙ ap (λ (m : ℕ). p / m) (omega (arith, pow-suc 256 (suc i))) in
    ap (λ (bs : List ℕ). p / 256 ^ suc i % 256 ∷ bs) (bytes_low_first-low (suc (suc i)) n p ∙ ap (low_bytes n) (sym e))

bytes-low : (n : ℕ) (x : ℤ) → bytes n x ≡ low_bytes n (residue (8 * n) x)
unfolding bytes
bytes-low n x = bytes_low_first-low 0 n (residue (8 * n) x) ∙ ap (low_bytes n) (div-one (residue (8 * n) x))

-- the bits above them don't matter
bytes-pos : (n p : ℕ) → bytes n (pos p) ≡ low_bytes n p
bytes-pos n p =
    let r : ℕ = residue (8 * n) (pos p) in
    bytes-low n (pos p) ∙ sym (eights-bits n (8 * n) r refl) ∙ ap (eights n) (bits-residue (8 * n) r (pos p) refl) ∙ eights-bits n (8 * n) p refl

-- ---- the bytes of a pattern in memory

take-bytes_low_first : (i k n x : ℕ) → n ≤ k → take n (bytes_low_first i k x) ≡ bytes_low_first i n x
take-bytes_low_first i k zero x h = refl
take-bytes_low_first i zero (suc n) x h = absurd (omega arith)
take-bytes_low_first i (suc k) (suc n) x h = ap (λ (r : List ℕ). byte_at i x ∷ r) (take-bytes_low_first (suc i) k n x (omega arith))

-- the array of all bytes begins with the lowest n
pub take-to_le_bytes : (n p : ℕ) (l : List ℕ) → l ≡ to_le_bytes w128 p → n ≤ 16 → take n l ≡ bytes n (pos p)
take-to_le_bytes n p l e h = ap (take n) e ∙ take-bytes_low_first 0 16 n p h ∙ bytes_low_first-low 0 n p ∙ ap (low_bytes n) (div-one p) ∙ sym (bytes-pos n p)

pub ruleset front_bytes = (take-to_le_bytes)

-- ---- what bytes depend on, and how many they are

residue-wrap_same : (s : Bool) (B : ℕ) (y : ℤ) → residue B (wrap s B y) ≡ residue B y
residue-wrap_same s B y = sym (num-bits_residue B (wrap s B y)) ∙ ap num (bits-wrap s B y) ∙ num-bits_residue B y

pub bytes-wrap : (s : Bool) (B n : ℕ) (x y : ℤ) → B ≡ 8 * n → y ≡ wrap s B x → bytes n y ≡ bytes n x
unfolding bytes
bytes-wrap s B n x y e f = ap (bytes_low_first 0 n) (rw (← e) (ap (residue B) f ∙ residue-wrap_same s B x))

pub bytes-residue : (B n p : ℕ) (x : ℤ) → 1 ≤ B → B ≤ 128 → B ≡ 8 * n → p ≡ residue 128 x → bytes n (pos p) ≡ bytes n x
bytes-residue B n p x h k e f =
    sym (bytes-wrap false B n (pos p) (wrap false B (pos p)) e refl)
    ∙ bytes-wrap false B n x (wrap false B (pos p)) e (wrap-residue false B p x (wrap false B (pos p)) h k f refl)

length-low : (n p : ℕ) → length (low_bytes n p) ≡ n
unfolding low_bytes
length-low zero p = refl
length-low (suc n) p = ap suc (length-low n (p / 256))

pub length-bytes : (n : ℕ) (x : ℤ) → length (bytes n x) ≡ n
length-bytes n x = ap length (bytes-low n x) ∙ length-low n (residue (8 * n) x)

-- ---- the number of a list of bytes

bytes_number-low : (n p : ℕ) → bytes_number (low_bytes n p) ≡ p % 2 ^ (8 * n)
unfolding low_bytes
bytes_number-low zero p = sym (mod-one p)
bytes_number-low (suc n) p =
    let e : 8 * suc n ≡ 8 * n + 8 = omega arith in
    let split : p % 2 ^ (8 * suc n) ≡ p / 256 % 2 ^ (8 * n) * 256 + p % 256 = ap (λ (k : ℕ). p % 2 ^ k) e ∙ mod-pow-add p (8 * n) 8 in
    omega (arith, bytes_number-low n (p / 256), split)

pub bytes_number-bytes : (n : ℕ) (x : ℤ) → bytes_number (bytes n x) ≡ residue (8 * n) x
bytes_number-bytes n x = ap bytes_number (bytes-low n x) ∙ bytes_number-low n (residue (8 * n) x) ∙ mod-eq_of_lt (residue-lt (8 * n) x)

low_bytes-number : (l : List ℕ) → ((i : ℕ) → get_or l i 0 < 256) → low_bytes (length l) (bytes_number l) ≡ l
unfolding low_bytes
low_bytes-number [] h = refl
low_bytes-number (b ∷ bs) h =
    let small : b < 256 = h 0 in
    let first : (b + 256 * bytes_number bs) % 256 ≡ b = omega arith in
    let rest : (b + 256 * bytes_number bs) / 256 ≡ bytes_number bs = omega arith in
    rw (first, rest) (ap (λ (l : List ℕ). b ∷ l) (low_bytes-number bs (λ i. h (suc i))))

pub bytes-number : (l : List ℕ) → ((i : ℕ) → get_or l i 0 < 256) → bytes (length l) (pos (bytes_number l)) ≡ l
bytes-number l h = bytes-pos (length l) (bytes_number l) ∙ low_bytes-number l h

pub bytes_number-lt : (l : List ℕ) → ((i : ℕ) → get_or l i 0 < 256) → bytes_number l < 2 ^ (8 * length l)
bytes_number-lt [] h = omega arith
bytes_number-lt (b ∷ bs) h =
    let small : b < 256 = h 0 in
    let rest = bytes_number-lt bs (λ i. h (suc i)) in
    let e : 2 ^ (8 * suc (length bs)) ≡ 256 * 2 ^ (8 * length bs) = ap (λ (k : ℕ). 2 ^ k) (omega arith) ∙ pow-add 2 8 (8 * length bs) in
    omega (arith, e)

-- a number of at most 15 bytes has room for one more
pub room : (l : List ℕ) (i p b : ℕ) → ((j : ℕ) → get_or l j 0 < 256) → length l ≤ 16 → 0 < i → i ≤ length l → p ≡ bytes_number (drop i l) → b < 256 → p * 256 + b < 2 ^ 128
room l i p b h k some f e small =
    let rest = bytes_number-lt (drop i l) (λ j. rw get_or-drop (h (i + j))) in
    let few : 8 * length (drop i l) ≤ 120 = omega (arith, length-drop i l) in
    let bound = pow_le (8 * length (drop i l)) 120 few in
    omega (arith, e)

pub whole : (i : ℕ) (l : List ℕ) (p : ℕ) → i ≡ 0 → p ≡ bytes_number (drop i l) → p ≡ bytes_number l
whole i l p z e = e ∙ ap (λ (k : ℕ). bytes_number (drop k l)) z

-- ---- the bytes of a stream

wrap-of_residue : (s : Bool) (B : ℕ) (x : ℤ) → 1 ≤ B → wrap s B (pos (residue B x)) ≡ wrap s B x
wrap-of_residue s B x h = wrap-same s B (pos (residue B x)) x (residue-congruent B x)

pub length-Borsh : (B : ℕ) (x : ℤ) → length (BorshBytes B x) ≡ div_ceil B 8
unfolding BorshBytes
length-Borsh B x = length-bytes (div_ceil B 8) (pos (residue B x))

bytes_number-Borsh : (B : ℕ) (x : ℤ) → bytes_number (BorshBytes B x) ≡ residue B x
unfolding BorshBytes
bytes_number-Borsh B x =
    let bound = pow_le B (8 * div_ceil B 8) (omega arith) in
    let small = residue-lt B x in
    bytes_number-bytes (div_ceil B 8) (pos (residue B x)) ∙ residue-pos (8 * div_ceil B 8) (residue B x) (omega arith)

-- what is written of all bytes of a residue
pub take-Borsh : (B n p : ℕ) (x : ℤ) (all : List ℕ) → p ≡ residue B x → B ≤ 128 → n ≡ div_ceil B 8 → ((k : ℕ) → k ≤ 16 → take k all ≡ bytes k (pos p)) → take n all ≡ BorshBytes B x
unfolding BorshBytes
take-Borsh B n p x all e h f t = t n (omega arith) ∙ (λ i. bytes (f i) (pos (e i)))

-- the value that is read from canonical bytes
pub Borsh-wrap : (s : Bool) (B p : ℕ) (l : List ℕ) (x : ℤ) → length l ≡ div_ceil B 8 → p ≡ bytes_number l → bytes (length l) (pos p) ≡ l → p < 2 ^ B → x ≡ wrap s B (pos p)
    → Canonical B l × (BorshBytes B x ≡ l)
unfolding BorshBytes
Borsh-wrap s B p l x n e b small f =
    let r : residue B x ≡ p = ap (residue B) f ∙ residue-wrap_same s B (pos p) ∙ residue-pos B p small in
    (record { long = n; below = subst (λ (k : ℕ). k < 2 ^ B) e small }, (λ i. bytes (sym n i) (pos (r i))) ∙ b)

-- ---- for callers: the value of bytes

pub wrap-number_of : (s : Bool) (B n : ℕ) (x : ℤ) (l : List ℕ) → B ≡ 8 * n → 1 ≤ B → InRange s B x → bytes n x ≡ l → wrap s B (pos (bytes_number l)) ≡ x
wrap-number_of s B n x l w h f e =
    let r : bytes_number l ≡ residue B x = ap bytes_number (sym e) ∙ bytes_number-bytes n x ∙ ap (λ (k : ℕ). residue k x) (sym w) in
    ap (λ (p : ℕ). wrap s B (pos p)) r ∙ wrap-of_residue s B x h ∙ wrap-of_in_range s B x h f

-- where the type has no sign, it is the number that the bytes spell
pub unsigned-number_of : (s : Bool) (B n : ℕ) (x : ℤ) (l : List ℕ) → B ≡ 8 * n → 1 ≤ B → x ≡ wrap s B (pos (bytes_number l)) → bytes_number l < 2 ^ (8 * n) → s ≡ false → x ≡ pos (bytes_number l)
unsigned-number_of s B n x l w h e small u =
    e ∙ wrap-of_in_range s B (pos (bytes_number l)) h (subst (λ (b : Bool). InRange b B (pos (bytes_number l))) (sym u) (unsigned-in_range B (bytes_number l) (subst (λ (k : ℕ). bytes_number l < 2 ^ k) (sym w) small)))

pub number_of-unsigned : (s : Bool) (B n : ℕ) (x : ℤ) (l : List ℕ) → B ≡ 8 * n → 1 ≤ B → InRange s B x → l ≡ bytes n x → s ≡ false → pos (bytes_number l) ≡ x
number_of-unsigned s B n x l w h f e u =
    let small : bytes_number l < 2 ^ (8 * n) = subst (λ (k : ℕ). k < 2 ^ (8 * n)) (sym (ap bytes_number e ∙ bytes_number-bytes n x)) (residue-lt (8 * n) x) in
    sym (unsigned-number_of s B n x l w h (sym (wrap-number_of s B n x l w h f (sym e))) small u)

-- with a sign they spell a number that is congruent to it
pub number_of-signed : (B n : ℕ) (x : ℤ) (l : List ℕ) → B ≡ 8 * n → l ≡ bytes n x → Congruent B (pos (bytes_number l)) x
number_of-signed B n x l w e =
    let r = subst (λ (m : ℕ). Congruent (8 * n) (pos m) x) (sym (ap bytes_number e ∙ bytes_number-bytes n x)) (residue-congruent (8 * n) x) in
    subst (λ (k : ℕ). Congruent k (pos (bytes_number l)) x) (sym w) r

-- ---- a byte at a place

low-at : (n p i : ℕ) → i < n → get_or (low_bytes n p) i 0 ≡ p / 256 ^ i % 256
unfolding low_bytes
low-at zero p i h = absurd (omega arith)
low-at (suc n) p zero h = ap (λ (q : ℕ). q % 256) (sym (div-one p))
low-at (suc n) p (suc i) h =
    let e : 256 * 256 ^ i ≡ 256 ^ suc i = omega (arith, pow-suc 256 i) in
    low-at n (p / 256) i (omega arith) ∙ ap (λ (q : ℕ). q % 256) (div-div-eq-div-mul p 256 (256 ^ i) ∙ ap (λ (d : ℕ). p / d) e)

-- of a number with no sign, by division
pub byte-at : (s : Bool) (B n i : ℕ) (x : ℤ) (l : List ℕ) → B ≡ 8 * n → InRange s B x → l ≡ bytes n x → s ≡ false → i < n
    → get_or l i 0 ≡ unsigned_abs x / 256 ^ i % 256
byte-at true B n i x l w f e u h = cc
byte-at false B n i (negsuc m) l w f e u h = let k = f.low in absurd (omega (arith, ints))
byte-at false B n i (pos m) l w f e u h =
    let t = f.high in
    let p = pow_pos B in
    let small : m < 2 ^ (8 * n) = subst (λ (k : ℕ). m < 2 ^ k) w (omega (arith, ints)) in
    ap (λ (k : List ℕ). get_or k i 0) (e ∙ bytes-low n (pos m)) ∙ low-at n (residue (8 * n) (pos m)) i h
    ∙ ap (λ (q : ℕ). q / 256 ^ i % 256) (residue-pos (8 * n) m small)

-- ---- the laws of specs/Laws

pub wrap-bytes_number : (s : Bool) (n : ℕ) (x : ℤ) → 1 ≤ n → InRange s (8 * n) x → wrap s (8 * n) (pos (bytes_number (bytes n x))) ≡ x
wrap-bytes_number s n x h f =
    let some : 1 ≤ 8 * n = omega arith in
    ap (λ (p : ℕ). wrap s (8 * n) (pos p)) (bytes_number-bytes n x) ∙ wrap-of_residue s (8 * n) x some ∙ wrap-of_in_range s (8 * n) x some f

pub bytes-unique : (s : Bool) (n : ℕ) (x y : ℤ) → 1 ≤ n → InRange s (8 * n) x → InRange s (8 * n) y → bytes n x ≡ bytes n y → x ≡ y
bytes-unique s n x y h f g e =
    sym (wrap-bytes_number s n x h f) ∙ ap (λ (l : List ℕ). wrap s (8 * n) (pos (bytes_number l))) e ∙ wrap-bytes_number s n y h g

pub Borsh-canonical : (B : ℕ) (x : ℤ) → Canonical B (BorshBytes B x)
Borsh-canonical B x = record { long = length-Borsh B x; below = subst (λ (k : ℕ). k < 2 ^ B) (sym (bytes_number-Borsh B x)) (residue-lt B x) }

pub wrap-Borsh : (s : Bool) (B : ℕ) (x : ℤ) → 1 ≤ B → InRange s B x → wrap s B (pos (bytes_number (BorshBytes B x))) ≡ x
wrap-Borsh s B x h f =
    ap (λ (p : ℕ). wrap s B (pos p)) (bytes_number-Borsh B x) ∙ wrap-of_residue s B x h ∙ wrap-of_in_range s B x h f

pub Borsh-unique : (s : Bool) (B : ℕ) (x y : ℤ) → 1 ≤ B → InRange s B x → InRange s B y → BorshBytes B x ≡ BorshBytes B y → x ≡ y
Borsh-unique s B x y h f g e =
    sym (wrap-Borsh s B x h f) ∙ ap (λ (l : List ℕ). wrap s B (pos (bytes_number l))) e ∙ wrap-Borsh s B y h g
