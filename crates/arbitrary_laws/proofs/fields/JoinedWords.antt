-- Words of fields joined by `|`, as in registers, headers and instructions. A primitive can have any number of
-- fields, in either order, with gaps and constants; a `UInt` up to four, because its calls state more. Each law is
-- about one field and the bits on one side of it, so no law depends on the number of fields. `ints` reads the
-- numbers of these types without a case for each sign, of which a word of fields would have too many. Callers name
-- the set `joined_words`.
use Rattle.std.specs.Prelude.{◌≡◌, ℕ, zero, suc, ◌+◌, ◌-◌, ◌*◌, ◌/◌, ◌%◌, ◌^◌, ◌<◌}
use Rattle.std.specs.Int.Bits.{bit_and, bit_or, bit_xor}
use Rattle.std.proofs.Common.{sym, ap, ap₂, subst, ◌∙◌, arith, div-add-mod', mod-lt, inl, inr}
use Rattle.std.proofs.lemmas.Bool.{cases_lt}
use Rattle.std.proofs.lemmas.Bool.Decides.{Decides-eqb, Decides-int_eq}
use Rattle.std.proofs.lemmas.Grind.{and_numeral, low_zeros, or_after_shift, or_before_shift}
use Rattle.std.proofs.lemmas.Int.{ints}
use Rattle.std.proofs.lemmas.Nat.{and_comm, and_le_r, and_mask, and_mod, and-not, or_comm, or_mod, pow_pos}
use Rattle.arbitrary_laws.proofs.fields.SideBySide.{beside, numeral_next, or_next}

-- ---- the low field first

-- a field above adjacent fields, and what those are. The first premise ends the attempt at once where the high one comes first
pub or_above : (b y d v x c w : ℕ) → d < c → d ≡ 2 ^ low_zeros 128 d → c ≡ 2 ^ low_zeros 128 c → b < d → y * d + b < c → y * d < v → x * c < w
    → (bit_or (bit_or b (y * d % v)) (x * c % w) ≡ x * c + y * d + b) × (bit_or b (y * d % v) ≡ y * d + b)
or_above b y d v x c w l p q e f g h =
    let one : bit_or b (y * d % v) ≡ y * d + b = or_before_shift b y d v p e g in
    let two : bit_or (bit_or b (y * d % v)) (x * c % w) ≡ x * c + y * d + b =
    ap (λ (n : ℕ). bit_or n (x * c % w)) one ∙ or_before_shift (y * d + b) x c w q f h ∙ omega arith in
    (two, one)

-- `suc m` fits a number that is written out
pub or_above_numeral : (m y d v x c w : ℕ) → d < c → d ≡ 2 ^ low_zeros 128 d → c ≡ 2 ^ low_zeros 128 c → suc m < d → y * d + suc m < c → y * d < v
    → x * c < w → (bit_or (bit_or (suc m) (y * d % v)) (x * c % w) ≡ x * c + y * d + suc m) × (bit_or (suc m) (y * d % v) ≡ y * d + suc m)
or_above_numeral m = or_above (suc m)

-- ---- a divisor of a power of two is one

even : (q l n : ℕ) → q * (2 * l) ≡ 2 * n → q * l ≡ n
even q l n e = let d : q * (2 * l) ≡ 2 * (q * l) = grind arith in omega (arith, d, e)

odd : (q l n : ℕ) → (2 * q + 1) * (2 * l + 1) ≡ 2 * n → ⊥
odd q l n e = let d : (2 * q + 1) * (2 * l + 1) ≡ 2 * (2 * (q * l) + q + l) + 1 = grind arith in omega (arith, d, e)

unit : (q l : ℕ) → q * l ≡ 1 → l ≡ 1
unit q l e = grind arith

power : (n l q : ℕ) → q * l ≡ 2 ^ n → (k : ℕ) × (l ≡ 2 ^ k)
power zero l q e = (0, unit q l e)
power (suc n) l q e =
    let t : 2 ^ suc n ≡ 2 * 2 ^ n = omega arith in
    elim (cases_lt (l % 2) 1) [
      | inl a ↦
          let d : l ≡ 2 * (l / 2) = omega arith in
          let r = power n (l / 2) q (even q (l / 2) (2 ^ n) (ap (λ (m : ℕ). q * m) (sym d) ∙ e ∙ t)) in
          (suc r.0, d ∙ ap (λ (m : ℕ). 2 * m) r.1 ∙ omega arith)
      | inr a ↦ elim (cases_lt (q % 2) 1) [
        | inl b ↦
            let d : q ≡ 2 * (q / 2) = omega arith in
            let f : 2 * (q / 2) * l ≡ 2 * (q / 2 * l) = grind arith in
            let g : q * l ≡ 2 * (q / 2) * l = ap (λ (m : ℕ). m * l) d in
            power n l (q / 2) (omega (arith, e, f, g, t))
        | inr b ↦
            let d : q ≡ 2 * (q / 2) + 1 = omega arith in
            let f : l ≡ 2 * (l / 2) + 1 = omega arith in
            absurd (odd (q / 2) (l / 2) (2 ^ n) (ap (λ (m : ℕ). m * (2 * (l / 2) + 1)) (sym d) ∙ ap (λ (m : ℕ). q * m) (sym f) ∙ e ∙ t))
      ]
    ]

pub as_power : (l : ℕ) → 2 ^ 128 % l ≡ 0 → (k : ℕ) × (l ≡ 2 ^ k)
as_power l e = power 128 l (2 ^ 128 / l) (omega (arith, e, div-add-mod' (2 ^ 128) l))

-- ---- numbers that are written out

-- the lowest bit of `suc m`, in words that compute at a written-out number alone: where the number isn't known, `low_zeros` would be opened without end
abbrev pub lowest : ℕ → ℕ
lowest m = bit_xor (suc m) m / 2 + 1

above : (l a b : ℕ) → 2 ^ 128 % l ≡ 0 → a % l ≡ 0 → b < l → bit_or a b ≡ a + b
above l a b e f g =
    let p = as_power l e in
    beside a p.0 b (subst (λ (n : ℕ). a % n ≡ 0) p.1 f) (subst (λ (n : ℕ). b < n) p.1 g)

pub or_numeral_first : (m b : ℕ) → 2 ^ 128 % lowest m ≡ 0 → suc m % lowest m ≡ 0 → b < lowest m → bit_or (suc m) b ≡ suc m + b
or_numeral_first m b e f g = above (lowest m) (suc m) b e f g

pub or_numeral_last : (b m : ℕ) → 2 ^ 128 % lowest m ≡ 0 → suc m % lowest m ≡ 0 → b < lowest m → bit_or b (suc m) ≡ suc m + b
or_numeral_last b m e f g = or_comm b (suc m) ∙ above (lowest m) (suc m) b e f g

pub or_numeral_between : (a m b : ℕ) → 2 ^ 128 % lowest m ≡ 0 → suc m % lowest m ≡ 0 → a % lowest m ≡ 0 → b < lowest m
    → bit_or (bit_or a (suc m)) b ≡ bit_or a (suc m) + b
or_numeral_between a m b e f g i =
    let p = as_power (lowest m) e in
    let c : bit_or a (suc m) % 2 ^ p.0 ≡ 0 =
    or_mod a (suc m) p.0 ∙ ap₂ bit_or (subst (λ (n : ℕ). a % n ≡ 0) p.1 g) (subst (λ (n : ℕ). suc m % n ≡ 0) p.1 f) in
    beside (bit_or a (suc m)) p.0 b c (subst (λ (n : ℕ). b < n) p.1 i)

-- ---- what a written mask lets through

-- what a mask lets through has no bit below the mask
pub masked-multiple : (n m k : ℕ) → suc m % 2 ^ k ≡ 0 → bit_and n (suc m) % 2 ^ k ≡ 0
masked-multiple n m k f =
    let z : bit_and (n % 2 ^ k) 0 ≡ 0 = omega (arith, and_le_r (n % 2 ^ k) 0) in
    and_mod n (suc m) k ∙ ap (bit_and (n % 2 ^ k)) f ∙ z

-- a field below what a mask let through
pub or_masked : (n m b : ℕ) → 2 ^ 128 % lowest m ≡ 0 → suc m % lowest m ≡ 0 → b < lowest m → bit_or (bit_and n (suc m)) b ≡ bit_and n (suc m) + b
or_masked n m b e f g =
    let p = as_power (lowest m) e in
    beside (bit_and n (suc m)) p.0 b (masked-multiple n m p.0 (subst (λ (i : ℕ). suc m % i ≡ 0) p.1 f)) (subst (λ (i : ℕ). b < i) p.1 g)

-- what a mask without the low bits lets through, and those bits
pub and_above : (n m : ℕ) → 2 ^ 128 % lowest m ≡ 0 → 2 ^ 128 % (suc m + lowest m) ≡ 0 → n < suc m + lowest m → bit_and n (suc m) + n % lowest m ≡ n
and_above n m e f g = by-places (lowest m) (as_power (lowest m) e).0 (as_power (suc m + lowest m) f).0 (as_power (lowest m) e).1 (as_power (suc m + lowest m) f).1 g
  where
    by-places : (l k w : ℕ) → l ≡ 2 ^ k → suc m + l ≡ 2 ^ w → n < suc m + l → bit_and n (suc m) + n % l ≡ n
    by-places l k w q r g =
        let above = pow_pos k in
        let is : suc m ≡ 2 ^ w - 1 - (2 ^ k - 1) = omega arith in
        let high : bit_and n (suc m) ≡ bit_and (2 ^ w - 1 - (2 ^ k - 1)) n = ap (bit_and n) is ∙ and_comm n _ in
        let low : bit_and (2 ^ k - 1) n ≡ n % l = and_comm _ n ∙ and_mask n k ∙ ap (λ (i : ℕ). n % i) (sym q) in
        let below = mod-lt n above in
        omega (arith, high, low, and-not w (2 ^ k - 1) n (omega arith) (omega arith), and_le_r (2 ^ k - 1) n)

-- any number of fields, of masked numbers and of numbers that are written out
pub ruleset joined_words = (or_next, or_after_shift, or_above, or_above_numeral, numeral_next, or_numeral_first, or_numeral_last, or_numeral_between, or_masked, and_above, and_numeral, ints)

-- and tests that what is read back is what was joined
pub ruleset words_read_back = (joined_words, Decides-eqb, Decides-int_eq)
