-- A field that is written where a mask has cleared one, such as `(word & !0xF0) | (field << 4)`. The other bits
-- do not change.
use Rattle.std.specs.Int.Bits.{bit_and, bit_or}
use Rattle.std.specs.Prelude.{false, pos, suc, unsigned_abs, ℕ, ℤ, ◌%◌, ◌*◌, ◌+ℤ◌, ◌+◌, ◌-◌, ◌/◌, ◌<◌, ◌^◌, ◌≡◌, ◌≤ℤ◌, ◌≤◌}
use Rattle.std.proofs.Common.{ap, ap₂, arith, div-add-mod', lt_of_le_of_lt, mod-eq_of_lt, pow-add, sym, ◌∙◌}
use Rattle.std.proofs.lemmas.Grind.{bit_length, low_zeros}
use Rattle.std.proofs.lemmas.Int.{ints}
use Rattle.std.proofs.lemmas.Nat.{and-not, and_assoc, and_block, and_comm, and_le_r, and_mod, or_disjoint, pow_pos}
use Rattle.std.proofs.lemmas.Nat.Bits.{and_high}
use Rattle.arbitrary_base.specs.Operation.{bitwise_and, bitwise_not, bitwise_or}
use Rattle.arbitrary_base.specs.Range.{InRange, hi}
use Rattle.arbitrary_base.proofs.operations.BitsAndSums.{and-in_range}
use Rattle.arbitrary_base.proofs.operations.Bitwise.{bitwise_and-commutes, bitwise_or-commutes}
use Rattle.arbitrary_base.proofs.operations.Definition.{not-in_range}
use Rattle.arbitrary_laws.proofs.bits.Identities.{and-distributes_or, bitwise_and-associates, bitwise_and-complement, bitwise_and-same, bitwise_and-zero, bitwise_or-zero}
use Rattle.arbitrary_laws.proofs.masks.NumberUnderMask.{and-digits, and-of_cleared, or-by_and}

-- ---- in a primitive, where the mask is a number that is written out

none : (n : ℕ) → bit_and n 0 ≡ 0
none n = let l = and_le_r n 0 in omega arith

-- a number shares no bit with a field among its zeros
pub apart : (m y k : ℕ) → y < 2 ^ low_zeros 128 (m / 2 ^ k) → m / 2 ^ k % 2 ^ low_zeros 128 (m / 2 ^ k) ≡ 0 → bit_and m (y * 2 ^ k) ≡ 0
apart m y k g e =
    let q = m / 2 ^ k in
    let j = low_zeros 128 q in
    let p = pow_pos k in
    let l : bit_and q y < 2 ^ j = lt_of_le_of_lt (and_le_r q y) g in
    let z : bit_and q y ≡ 0 = sym (mod-eq_of_lt l) ∙ and_mod q y j ∙ ap (λ (n : ℕ). bit_and n (y % 2 ^ j)) e ∙ and_comm 0 (y % 2 ^ j) ∙ none (y % 2 ^ j) in
    let w : m ≡ q * 2 ^ k + m % 2 ^ k = omega (arith, div-add-mod' m (2 ^ k)) in
    let r : m % 2 ^ k < 2 ^ k = omega arith in
    let t : y * 2 ^ k ≡ y * 2 ^ k + 0 = omega arith in
    ap (λ (n : ℕ). bit_and n (y * 2 ^ k)) w ∙ ap (bit_and (q * 2 ^ k + m % 2 ^ k)) t ∙ and_block k q y (m % 2 ^ k) 0 r p ∙ rw (z, none (m % 2 ^ k)) (omega arith)

-- above the lowest place, below a one of the mask
pub or_into_hole : (w m y d v : ℕ) → d ≡ 2 ^ low_zeros 128 d → suc m / d % 2 ^ low_zeros 128 (suc m / d) ≡ 0 → y < 2 ^ low_zeros 128 (suc m / d) → y * d < v
    → bit_or (bit_and w (suc m)) (y * d % v) ≡ bit_and w (suc m) + y * d
or_into_hole w m y d v p e g h =
    let k = low_zeros 128 d in
    let n = suc m in
    let f : y < 2 ^ low_zeros 128 (n / 2 ^ k) = rw (← p) g in
    let i : n / 2 ^ k % 2 ^ low_zeros 128 (n / 2 ^ k) ≡ 0 = rw (← p) e in
    let z : bit_and n (y * d) ≡ 0 = ap (λ (c : ℕ). bit_and n (y * c)) p ∙ apart n y k f i in
    ap (bit_or (bit_and w n)) (mod-eq_of_lt h) ∙ or_disjoint (bit_and w n) (y * d) (and_assoc (y * d) w n ∙ ap (bit_and w) z ∙ none w)

-- what a mask lacks of all ones up to its highest; an `abbrev`, so that it computes at a number that is written out
abbrev pub hole : ℕ → ℕ
hole n = 2 ^ bit_length 128 n - 1 - n

-- the zeros of a mask are adjacent: what it clears, and what it leaves
pub and_around : (w m : ℕ) → low_zeros 128 (hole (suc m)) ≤ bit_length 128 (hole (suc m)) → hole (suc m) + 2 ^ low_zeros 128 (hole (suc m)) ≡ 2 ^ bit_length 128 (hole (suc m)) → suc m < 2 ^ bit_length 128 (suc m)
    → w < 2 ^ bit_length 128 (suc m)
    → bit_and w (suc m) + w / 2 ^ low_zeros 128 (hole (suc m)) % 2 ^ (bit_length 128 (hole (suc m)) - low_zeros 128 (hole (suc m))) * 2 ^ low_zeros 128 (hole (suc m)) ≡ w
and_around w m l e f g =
    let t = bit_length 128 (suc m) in
    let h = hole (suc m) in
    let k = low_zeros 128 h in
    let j = bit_length 128 h - k in
    let top : bit_length 128 h ≡ j + k = omega arith in
    let run : h ≡ 2 ^ (j + k) - 2 ^ k = (let r : h ≡ 2 ^ bit_length 128 h - 2 ^ k = omega arith in r) ∙ ap (λ (i : ℕ). 2 ^ i - 2 ^ k) top in
    let field : bit_and h w ≡ w / 2 ^ k % 2 ^ j * 2 ^ k = and_comm h w ∙ ap (bit_and w) run ∙ and_high w j k in
    let rest : 2 ^ t - 1 - h ≡ suc m = omega arith in
    let both : bit_and (suc m) w + bit_and h w ≡ w = ap (λ (n : ℕ). bit_and n w + bit_and h w) (sym rest) ∙ and-not t h w (omega arith) g in
    omega (arith, and_comm w (suc m))

-- ---- in a number of these types with no sign, where the mask is a complement

-- a multiple of 2 ^ k below 2 ^ t has its ones between these places
run : (N k t : ℕ) → k ≤ t → N % 2 ^ k ≡ 0 → N < 2 ^ t → N / 2 ^ k % 2 ^ (t - k) * 2 ^ k ≡ N
run N k t l e g =
    let m = div-add-mod' N (2 ^ k) in
    let top : 2 ^ t ≡ 2 ^ (t - k) * 2 ^ k = (let a : t ≡ (t - k) + k = omega arith in ap (λ (i : ℕ). 2 ^ i) a ∙ pow-add 2 (t - k) k) in
    let small : N / 2 ^ k < 2 ^ (t - k) = below (N / 2 ^ k) (2 ^ (t - k)) (2 ^ k) (omega arith) in
    ap (λ (i : ℕ). i * 2 ^ k) (mod-eq_of_lt small) ∙ omega arith
  where
    below : (a b c : ℕ) → a * c < b * c → a < b
    below a b c h = grind arith

-- a number whose ones are all under the mask n, whose ones are adjacent
module _ (B n : ℕ) (z : ℤ) (h : 1 ≤ B) (g : InRange false B z) (m : pos n ≤ℤ hi false B) (l : low_zeros 128 n ≤ bit_length 128 n)
    (e : n + 2 ^ low_zeros 128 n ≡ 2 ^ bit_length 128 n) (i : unsigned_abs z % 2 ^ low_zeros 128 n ≡ 0) (j : unsigned_abs z < 2 ^ bit_length 128 n) where
  inside : bitwise_and false B z (pos n) ≡ z
  inside = and-digits B n z h g m l e ∙ ap pos (run (unsigned_abs z) (low_zeros 128 n) (bit_length 128 n) l i j) ∙ natural z g.low
    where
      natural : (y : ℤ) → pos 0 ≤ℤ y → pos (unsigned_abs y) ≡ y
      natural y q = omega (arith, ints)

  -- such a number is written where the mask has cleared x
  module _ (x : ℤ) where
    abbrev cleared : ℤ
    cleared = bitwise_and false B x (bitwise_not false B (pos n))

    under : bitwise_and false B (pos n) cleared ≡ pos 0
    under = bitwise_and-commutes false B (pos n) cleared ∙ and-of_cleared false B x (pos n) h

    -- what is under the mask then, and outside it
    pub written-inside : bitwise_and false B (bitwise_or false B cleared z) (pos n) ≡ z
    written-inside =
        bitwise_and-commutes false B _ (pos n) ∙ and-distributes_or false B (pos n) cleared z
        ∙ ap₂ (bitwise_or false B) under (bitwise_and-commutes false B (pos n) z ∙ inside) ∙ bitwise_or-commutes false B (pos 0) z ∙ bitwise_or-zero false B z h g

    pub written-outside : bitwise_and false B (bitwise_or false B cleared z) (bitwise_not false B (pos n)) ≡ cleared
    written-outside =
        let mask = bitwise_not false B (pos n) in
        let none : bitwise_and false B mask z ≡ pos 0 =
        bitwise_and-commutes false B mask z ∙ ap (λ (y : ℤ). bitwise_and false B y mask) (sym inside) ∙ bitwise_and-associates false B z (pos n) mask
        ∙ ap (bitwise_and false B z) (bitwise_and-complement false B (pos n) h) ∙ bitwise_and-zero false B z h in
        let same : bitwise_and false B mask cleared ≡ cleared =
        bitwise_and-commutes false B mask cleared ∙ bitwise_and-associates false B x mask mask
        ∙ ap (bitwise_and false B x) (bitwise_and-same false B mask h (not-in_range false B (pos n) h)) in
        bitwise_and-commutes false B _ mask ∙ and-distributes_or false B mask cleared z ∙ ap₂ (bitwise_or false B) same none
        ∙ bitwise_or-zero false B cleared h (and-in_range false B x mask h)

pub or-into_cleared : (B n : ℕ) (x z : ℤ) → 1 ≤ B → InRange false B x → InRange false B z → pos n ≤ℤ hi false B
    → low_zeros 128 n ≤ bit_length 128 n → n + 2 ^ low_zeros 128 n ≡ 2 ^ bit_length 128 n → unsigned_abs z % 2 ^ low_zeros 128 n ≡ 0 → unsigned_abs z < 2 ^ bit_length 128 n
    → bitwise_or false B (bitwise_and false B x (bitwise_not false B (pos n))) z ≡ bitwise_and false B x (bitwise_not false B (pos n)) +ℤ z
or-into_cleared B n x z h f g m l e i j =
    let c = bitwise_and false B x (bitwise_not false B (pos n)) in
    let none : bitwise_and false B c z ≡ pos 0 =
    ap (bitwise_and false B c) (sym (inside B n z h g m l e i j) ∙ bitwise_and-commutes false B z (pos n)) ∙ sym (bitwise_and-associates false B c (pos n) z)
    ∙ ap (λ (y : ℤ). bitwise_and false B y z) (and-of_cleared false B x (pos n) h)
    ∙ bitwise_and-commutes false B (pos 0) z ∙ bitwise_and-zero false B z h in
    let s = or-by_and false B c z h (and-in_range false B x (bitwise_not false B (pos n)) h) g in
    omega (arith, ints)
