-- The lowest one of a number, as a power of two that computes for a literal.
use Rattle.std.specs.Prelude.{◌≡◌, ℕ, zero, suc, ◌+◌, ◌-◌, ◌*◌, ◌/◌, ◌%◌, ◌^◌, ◌<◌}
use Rattle.std.specs.Int.Bits.{bit_and, bit_xor}
use lib.Bits.{and_self, and_shifted, xor_self, xor_shifted}
use Rattle.std.proofs.Common.{sym, ap, ap₂, ◌∙◌, arith, inl, inr}
use Rattle.std.proofs.Math.Nat.{add-mul, mul_assoc}
use Rattle.std.proofs.lemmas.Bool.{cases_lt}
use Rattle.std.proofs.lemmas.Nat.{and_block, and_le_r, pow_pos, xor_block}

pub none : (n : ℕ) → bit_and n 0 ≡ 0
none n = let l = and_le_r n 0 in omega arith

pub twice : (q p : ℕ) → 2 * (q * p) ≡ q * (2 * p)
twice q p = grind arith

pub next : (k : ℕ) → 2 ^ suc k ≡ 2 * 2 ^ k
next k = omega arith

-- its value, in words that compute where the number is written out, and are not opened where it is not
abbrev pub low_bit : ℕ → ℕ
low_bit n = bit_xor n (n - 1) / 2 + 1

-- a number above 0 is odd times a power of two
pub odd_times : (f n : ℕ) → n < f → 0 < n → (k : ℕ) × (r : ℕ) × (n ≡ r * 2 ^ suc k + 2 ^ k)
odd_times zero n l p = absurd (omega arith)
odd_times (suc f) n l p = elim (cases_lt (n % 2) 1) [
  | inl e ↦
      let h = odd_times f (n / 2) (omega arith) (omega arith) in
      let k = h.0 in
      let r = h.1 in
      (suc k, r, omega (arith, h.2, next k, next (suc k), ap (λ (i : ℕ). r * i) (next (suc k)), ap (λ (i : ℕ). r * i) (next k), twice r (2 ^ k), twice r (2 ^ suc k)))
  | inr e ↦ (0, n / 2, omega arith)
]

module _ (k r : ℕ) where
  before : r * 2 ^ suc k + 2 ^ k - 1 ≡ r * 2 ^ suc k + (2 ^ k - 1)
  before = omega (arith, pow_pos k)

  with_before : bit_xor (2 ^ k) (2 ^ k - 1) ≡ 2 ^ k + (2 ^ k - 1)
  with_before =
      let one : 2 ^ k ≡ 1 * 2 ^ k = omega arith in
      let l : 2 ^ k - 1 < 2 ^ k = omega (arith, pow_pos k) in
      ap (λ (i : ℕ). bit_xor i (2 ^ k - 1)) one ∙ xor_shifted 1 k (2 ^ k - 1) l ∙ omega arith

  pub low_bit-of_odd_times : low_bit (r * 2 ^ suc k + 2 ^ k) ≡ 2 ^ k
  low_bit-of_odd_times =
      let p = pow_pos k in
      let s = next k in
      let a : 2 ^ k < 2 ^ suc k = omega arith in
      let b : 2 ^ k - 1 < 2 ^ suc k = omega arith in
      let e : bit_xor (r * 2 ^ suc k + 2 ^ k) (r * 2 ^ suc k + 2 ^ k - 1) ≡ 0 * 2 ^ suc k + (2 ^ k + (2 ^ k - 1)) =
      ap (bit_xor (r * 2 ^ suc k + 2 ^ k)) before ∙ xor_block (suc k) r r (2 ^ k) (2 ^ k - 1) a b
      ∙ ap₂ (λ (i j : ℕ). i * 2 ^ suc k + j) (xor_self r) with_before in
      ap (λ (i : ℕ). i / 2 + 1) e ∙ omega arith

  pub and_before : bit_and (r * 2 ^ suc k + 2 ^ k) (r * 2 ^ suc k + 2 ^ k - 1) ≡ r * 2 ^ suc k
  and_before =
      let p = pow_pos k in
      let s = next k in
      let a : 2 ^ k < 2 ^ suc k = omega arith in
      let b : 2 ^ k - 1 < 2 ^ suc k = omega arith in
      let one : 2 ^ k ≡ 1 * 2 ^ k = omega arith in
      let l : 2 ^ k - 1 < 2 ^ k = omega arith in
      let z : bit_and (2 ^ k) (2 ^ k - 1) ≡ 0 = ap (λ (i : ℕ). bit_and i (2 ^ k - 1)) one ∙ and_shifted 1 k (2 ^ k - 1) l in
      ap (bit_and (r * 2 ^ suc k + 2 ^ k)) before ∙ and_block (suc k) r r (2 ^ k) (2 ^ k - 1) a b
      ∙ ap₂ (λ (i j : ℕ). i * 2 ^ suc k + j) (and_self r) z ∙ omega arith

-- the lowest one is a power of two that divides the number
pub record LowPower (n : ℕ) : Type 0 where
  pub place : ℕ
  pub is : low_bit n ≡ 2 ^ place
  pub times : ℕ
  pub number : n ≡ times * 2 ^ place

pub low_power : (n : ℕ) → 0 < n → LowPower n
low_power n p =
    let h = odd_times (suc n) n (omega arith) p in
    let k = h.0 in
    let r = h.1 in
    record {
      place = k;
      is = ap low_bit h.2 ∙ low_bit-of_odd_times k r;
      times = r * 2 + 1;
      number = omega (arith, h.2, add-mul (r * 2) 1 (2 ^ k), mul_assoc r 2 (2 ^ k), ap (λ (i : ℕ). r * i) (next k));
    }

-- a number that shares no bit with the one before it is a power of two
pub power : (d : ℕ) → 0 < d → bit_and d (d - 1) ≡ 0 → (k : ℕ) × (d ≡ 2 ^ k)
power d p e =
    let h = odd_times (suc d) d (omega arith) p in
    let z : h.1 * 2 ^ suc h.0 ≡ 0 = sym (and_before h.0 h.1) ∙ sym (ap (λ (i : ℕ). bit_and i (i - 1)) h.2) ∙ e in
    (h.0, omega (arith, h.2, z))
