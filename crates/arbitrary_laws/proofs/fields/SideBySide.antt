-- Adjacent fields joined by `|`: four, five and six of them, three with the low one first, and one more below
-- any number of them. A field is a number times a power of two, as a left shift returns it. Everyday.antt has
-- three, and std two.
use Rattle.std.specs.Prelude.{◌≡◌, ℕ, suc, ◌+◌, ◌*◌, ◌/◌, ◌%◌, ◌^◌, ◌<◌}
use Rattle.std.specs.Int.Bits.{bit_or}
use Rattle.std.proofs.Common.{refl, sym, ap, ◌∙◌, arith, div-add-mod', mod-eq_of_lt}
use Rattle.std.proofs.Math.Nat.{mul-mod_left}
use Rattle.std.proofs.lemmas.Grind.{low_zeros}
use Rattle.std.proofs.lemmas.Nat.{or_mod, or_shifted}

-- a number with no bit below place k, and one with none from there on
pub beside : (a k b : ℕ) → a % 2 ^ k ≡ 0 → b < 2 ^ k → bit_or a b ≡ a + b
beside a k b e g =
    let m : a / 2 ^ k * 2 ^ k ≡ a = omega (arith, div-add-mod' a (2 ^ k)) in
    ap (λ (n : ℕ). bit_or n b) (sym m) ∙ or_shifted (a / 2 ^ k) k b g ∙ ap (λ (n : ℕ). n + b) m

-- one more field below adjacent fields
pub or_next : (a y d v b : ℕ) → d ≡ 2 ^ low_zeros 128 d → a % d ≡ 0 → b < d → y * d < v → bit_or (bit_or a (y * d % v)) b ≡ bit_or a (y * d % v) + b
or_next a y d v b p e g h =
    let k = low_zeros 128 d in
    let f : a % 2 ^ k ≡ 0 = ap (λ (n : ℕ). a % n) (sym p) ∙ e in
    let s : y * d % v % 2 ^ k ≡ 0 = ap (λ (n : ℕ). n % 2 ^ k) (mod-eq_of_lt h) ∙ ap (λ (n : ℕ). y * n % 2 ^ k) p ∙ mul-mod_left y (2 ^ k) in
    let c : bit_or a (y * d % v) % 2 ^ k ≡ 0 = or_mod a (y * d % v) k ∙ rw (f, s) refl in
    beside (bit_or a (y * d % v)) k b c (omega arith)

-- `suc m` fits a number that is written out
pub numeral_next : (m y d v b : ℕ) → d ≡ 2 ^ low_zeros 128 d → suc m % d ≡ 0 → b < d → y * d < v → bit_or (bit_or (suc m) (y * d % v)) b ≡ bit_or (suc m) (y * d % v) + b
numeral_next m = or_next (suc m)
