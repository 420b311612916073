-- The length of a number's decimal text.
use Rattle.std.specs.Prelude.{◌≡◌, ℕ, zero, suc, length, ◌+◌, ◌*◌, ◌/◌, ◌%◌, ◌^◌, ◌≤◌, ◌<◌, false, [], ◌∷◌}
use Rattle.std.specs.Fmt.{digits, decimal}
use Rattle.std.proofs.Common.{refl, ap, arith, length-append, pow-suc}
use Rattle.std.proofs.lemmas.Fmt.{decimal_nonempty, decimal_step, length-decimal-le}

long : (k n : ℕ) → 10 ^ k ≤ n → n < 2 ^ 64 → k < length (decimal n)
long zero n h g = decimal_nonempty n g
long (suc k) n h g =
    let e : 10 ^ suc k ≡ 10 * 10 ^ k = omega (arith, pow-suc 10 k) in
    let p : 1 ≤ 10 ^ k = some k in
    let rest = long k (n / 10) (omega arith) (omega arith) in
    omega (arith, ap length (decimal_step n (omega arith) g), length-append (decimal (n / 10)) ((48 + n % 10) ∷ []))
  where
    some : (k : ℕ) → 1 ≤ 10 ^ k
    some zero = omega arith
    some (suc k) = omega (arith, pow-suc 10 k, some k)

pub length-of_text : (n : ℕ) → n < 2 ^ 64 → (digits 10 false n ≡ digits 10 false n) × (1 ≤ length (digits 10 false n))
    × (n < 10 → length (digits 10 false n) ≤ 1) × (n < 100 → length (digits 10 false n) ≤ 2) × (n < 1000 → length (digits 10 false n) ≤ 3) × (n < 10000 → length (digits 10 false n) ≤ 4)
    × (n < 100000 → length (digits 10 false n) ≤ 5) × (10 ≤ n → 2 ≤ length (digits 10 false n)) × (100 ≤ n → 3 ≤ length (digits 10 false n)) × (1000 ≤ n → 4 ≤ length (digits 10 false n))
    × (10000 ≤ n → 5 ≤ length (digits 10 false n))
length-of_text n g = (
  refl,
  decimal_nonempty n g,
  λ h. length-decimal-le 1 n (omega arith) h g,
  λ h. length-decimal-le 2 n (omega arith) h g,
  λ h. length-decimal-le 3 n (omega arith) h g,
  λ h. length-decimal-le 4 n (omega arith) h g,
  λ h. length-decimal-le 5 n (omega arith) h g,
  λ h. long 1 n h g,
  λ h. long 2 n h g,
  λ h. long 3 n h g,
  λ h. long 4 n h g,
)
