-- The digits of a number, from the last to the first.
use Rattle.std.proofs.Common.{◌≡◌, ℕ, ◌+◌, ◌*◌, ◌/◌, ◌%◌, ◌^◌, ◌<◌, ◌≤◌, [], ◌∷◌, ◌++◌, length, ℤ, pos, negsuc, false, true≢false, int_le, unsigned_abs, refl, sym, ap, ◌∙◌, arith, add-one, mul_assoc, length-append}
use lib.Dec.{leb-zero}
use Rattle.std.specs.Fmt.{decimal, signed_decimal}
use Rattle.std.proofs.lemmas.Fmt.{decimal_digit, decimal_step_wide, length-decimal-le_wide}
use Rattle.std.proofs.lemmas.Nat.{mul-le}
use Rattle.std.proofs.Math.Nat.{one-le-pow, pow-suc, pow-le-pow_right}

-- one digit more, of a number whose last k + 1 digits are those of `left`
pub low-step : (high k left : ℕ) → 0 < high → high < 2 ^ 64 → k < 18 → left < 2 ^ 64
    → decimal (high * 10 ^ (k + 1) + left) ≡ decimal (high * 10 ^ k + left / 10) ++ (48 + left % 10) ∷ []
low-step high k left some small within fits =
    let more : high * 10 ^ (k + 1) ≡ high * 10 ^ k * 10 = rw (add-one, pow-suc 10 k) (sym (mul_assoc high (10 ^ k) 10)) in
    let least : 1 * 1 ≤ high * 10 ^ k = mul-le 1 1 high (10 ^ k) (omega arith) (one-le-pow k 10 (omega arith)) in
    let near : k ≤ 18 = omega arith in
    let power : 10 ^ k ≤ 10 ^ 18 = pow-le-pow_right {n = 10} (omega arith) near in
    let most : high * 10 ^ k ≤ 2 ^ 64 * 10 ^ 18 = mul-le high (10 ^ k) (2 ^ 64) (10 ^ 18) (omega arith) power in
    let whole : (high * 10 ^ k * 10 + left) / 10 ≡ high * 10 ^ k + left / 10 = omega arith in
    let last : (high * 10 ^ k * 10 + left) % 10 ≡ left % 10 = omega arith in
    rw more (decimal_step_wide (high * 10 ^ k * 10 + left) (omega arith) (omega arith) ∙ rw (whole, last) refl)

-- the last digit
pub last_digit : (n : ℕ) → 10 ≤ n → n < 2 ^ 64 → (decimal n ≡ decimal (n / 10) ++ (48 + n % 10) ∷ []) × (length (decimal n) ≡ length (decimal (n / 10)) + 1)
last_digit n some fits =
    let digits = decimal_step_wide n some (omega (arith, fits)) in
    (digits, omega (arith, ap length digits, length-append (decimal (n / 10)) ((48 + n % 10) ∷ [])))

pub first_digit : (n : ℕ) → n < 10 → (decimal n ≡ (48 + n) ∷ []) × (length (decimal n) ≡ 1)
first_digit n small = let digits = decimal_digit n small in (digits, ap length digits)

-- a number of 120 bits has 37 digits at most
pub length-decimal : (n : ℕ) → n < 2 ^ 120 → length (decimal n) ≤ 37
length-decimal n h = length-decimal-le_wide 37 n (omega arith) (omega arith) (omega arith)

-- and 18 fewer of them without the last 18
pub length-high : (n : ℕ) → n < 10 ^ 22 → length (decimal n) ≤ 22
length-high n h = length-decimal-le_wide 22 n (omega arith) (omega arith) (omega arith)

pub minus_first : (z : ℤ) → int_le (pos 0) z ≡ false → 45 ∷ decimal (unsigned_abs z) ≡ signed_decimal z
minus_first (pos n) e = absurd (true≢false (sym (leb-zero n) ∙ e))
minus_first (negsuc n) e = refl
