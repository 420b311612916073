-- The laws of powers, and of their distance from 0.
use Rattle.std.specs.Prelude.{◌≡◌, ◌==◌, ◌^◌, Bool, true, not, neg_ℤ, ℕ, ℤ, false, zero, suc, pos, negsuc, ◌*ℤ◌, ◌≤ℤ◌, ◌<ℤ◌, ◌+◌, ◌*◌, ◌/◌, ◌%◌, ◌≤◌, ◌<◌, unsigned_abs, int_lt}
use Rattle.std.proofs.Common.{arith, refl, ap, sym, subst, ◌∙◌, le_trans, le_of_eq}
use Rattle.std.specs.Int.{int_pow}
use Rattle.std.proofs.Math.Nat.{mul-le-mul_left, pow-suc, pow-zero}
use Rattle.std.proofs.lemmas.Int.{ints, unsigned_abs-mul}
use Rattle.arbitrary_base.proofs.integers.Ring.{mul_assoc_z}

pub mul_comm_z : (a b : ℤ) → a *ℤ b ≡ b *ℤ a
mul_comm_z a b = omega (arith, ints)

pub one-mul_z : (a : ℤ) → pos 1 *ℤ a ≡ a
one-mul_z a = omega (arith, ints)

-- (a b) (c d) = (a c) (b d)
mul_pairs : (a b c d : ℤ) → a *ℤ b *ℤ (c *ℤ d) ≡ a *ℤ c *ℤ (b *ℤ d)
mul_pairs a b c d =
    mul_assoc_z a b (c *ℤ d)
    ∙ ap (λ (z : ℤ). a *ℤ z) (sym (mul_assoc_z b c d) ∙ ap (λ (z : ℤ). z *ℤ d) (mul_comm_z b c) ∙ mul_assoc_z c b d)
    ∙ sym (mul_assoc_z a c (b *ℤ d))

negative-times : (a m : ℕ) → neg_ℤ (pos (m * suc a)) ≡ negsuc a *ℤ pos m
negative-times a m = omega (arith, ints)

negative-twice : (a m : ℕ) → pos (m * suc a) ≡ negsuc a *ℤ neg_ℤ (pos m)
negative-twice a zero = omega (arith, ints)
negative-twice a (suc m) = omega (arith, ints)

even-next : (n : ℕ) (t : Bool) → (n % 2 == 0) ≡ t → (suc n % 2 == 0) ≡ not t
even-next n true e = grind arith
even-next n false e = grind arith

-- each factor of a number below 0 turns the sign
power-turns : (a n : ℕ) (t : Bool) → (n % 2 == 0) ≡ t → int_pow (negsuc a) (suc n) ≡ negsuc a *ℤ int_pow (negsuc a) n
power-turns a n true e = rw (e, even-next n true e, pow-suc (suc a) n) (negative-times a (suc a ^ n))
power-turns a n false e = rw (e, even-next n false e, pow-suc (suc a) n) (negative-twice a (suc a ^ n))

pub power-suc : (x : ℤ) (n : ℕ) → int_pow x (suc n) ≡ x *ℤ int_pow x n
power-suc (pos a) n = rw (pow-suc a n) (omega (arith, ints))
power-suc (negsuc a) n = power-turns a n (n % 2 == 0) refl

pub power-zero : (x : ℤ) → int_pow x 0 ≡ pos 1
power-zero (pos a) = ap pos (pow-zero a)
power-zero (negsuc a) = ap pos (pow-zero (suc a))

pub power-one : (x : ℤ) → int_pow x 1 ≡ x
power-one x = power-suc x 0 ∙ ap (λ (z : ℤ). x *ℤ z) (power-zero x) ∙ mul_comm_z x (pos 1) ∙ one-mul_z x

pub power-add : (x : ℤ) (m n : ℕ) → int_pow x m *ℤ int_pow x n ≡ int_pow x (m + n)
power-add x zero n = ap (λ (z : ℤ). z *ℤ int_pow x n) (power-zero x) ∙ one-mul_z (int_pow x n) ∙ ap (int_pow x) (let e : n ≡ 0 + n = omega arith in e)
power-add x (suc m) n =
    ap (λ (z : ℤ). z *ℤ int_pow x n) (power-suc x m) ∙ mul_assoc_z x (int_pow x m) (int_pow x n) ∙ ap (λ (z : ℤ). x *ℤ z) (power-add x m n)
    ∙ sym (power-suc x (m + n)) ∙ ap (int_pow x) (let e : suc (m + n) ≡ suc m + n = omega arith in e)

pub power-mul : (x y : ℤ) (n : ℕ) → int_pow (x *ℤ y) n ≡ int_pow x n *ℤ int_pow y n
power-mul x y zero = power-zero (x *ℤ y) ∙ sym (λ i. power-zero x i *ℤ power-zero y i)
power-mul x y (suc n) =
    power-suc (x *ℤ y) n ∙ ap (λ (z : ℤ). x *ℤ y *ℤ z) (power-mul x y n) ∙ mul_pairs x y (int_pow x n) (int_pow y n)
    ∙ sym (λ i. power-suc x n i *ℤ power-suc y n i)

pub power-square : (x : ℤ) (n : ℕ) → int_pow (x *ℤ x) n ≡ int_pow x (n + n)
power-square x n = power-mul x x n ∙ power-add x n n

-- ---- size

pub size_grows : (a b : ℤ) → 0 < unsigned_abs b → unsigned_abs a ≤ unsigned_abs (a *ℤ b)
size_grows a b h =
    le_trans (let e : unsigned_abs a ≤ unsigned_abs a * 1 = omega arith in e)
    (le_trans (mul-le-mul_left (unsigned_abs a) h) (le_of_eq (sym (unsigned_abs-mul a b))))

pub power-positive : (x : ℤ) (n : ℕ) → 0 < unsigned_abs x → 0 < unsigned_abs (int_pow x n)
power-positive x zero h = rw (power-zero x) (omega arith)
power-positive x (suc n) h = rw (power-suc x n) (le_trans h (size_grows x (int_pow x n) (power-positive x n h)))

-- ---- sign

square_sign : (z : ℤ) → pos 0 ≤ℤ (z *ℤ z)
square_sign (pos a) = omega (arith, ints)
square_sign (negsuc a) = omega (arith, ints)

pub power-even : (x : ℤ) (n : ℕ) → pos 0 ≤ℤ int_pow x (n + n)
power-even x n = subst (λ (z : ℤ). pos 0 ≤ℤ z) (power-add x n n) (square_sign (int_pow x n))

pub natural-mul : (x z : ℤ) → pos 0 ≤ℤ x → pos 0 ≤ℤ z → pos 0 ≤ℤ (x *ℤ z)
natural-mul (negsuc a) z h k = absurd (omega (arith, ints, h))
natural-mul (pos a) (negsuc b) h k = absurd (omega (arith, ints, k))
natural-mul (pos a) (pos b) h k = omega (arith, ints)

negative-mul : (x z : ℤ) → x <ℤ pos 0 → pos 0 ≤ℤ z → 0 < unsigned_abs z → (x *ℤ z) <ℤ pos 0
negative-mul (pos a) z h k l = absurd (omega (arith, ints, h))
negative-mul (negsuc a) (negsuc b) h k l = absurd (omega (arith, ints, k))
negative-mul (negsuc a) (pos zero) h k l = absurd (omega (arith, l))
negative-mul (negsuc a) (pos (suc b)) h k l = omega (arith, ints)

pub power-odd : (x : ℤ) (n : ℕ) → n % 2 ≡ 1 → int_pow x n ≡ x *ℤ int_pow x (n / 2 + n / 2)
power-odd x n h = ap (int_pow x) (let e : n ≡ suc (n / 2 + n / 2) = omega arith in e) ∙ power-suc x (n / 2 + n / 2)

-- an odd power has the base's sign
pub odd-sign : (x : ℤ) (n : ℕ) → n % 2 ≡ 1 → int_lt x (pos 0) ≡ int_lt (int_pow x n) (pos 0)
odd-sign x n h = subst (λ (z : ℤ). int_lt x (pos 0) ≡ int_lt z (pos 0)) (sym (power-odd x n h)) (by x)
  where
    by : (x : ℤ) → int_lt x (pos 0) ≡ int_lt (x *ℤ int_pow x (n / 2 + n / 2)) (pos 0)
    by (pos a) =
        let k = natural-mul (pos a) (int_pow (pos a) (n / 2 + n / 2)) (omega (arith, ints)) (power-even (pos a) (n / 2)) in
        grind (arith, ints)
    by (negsuc a) =
        let k = negative-mul (negsuc a) (int_pow (negsuc a) (n / 2 + n / 2)) (omega (arith, ints)) (power-even (negsuc a) (n / 2)) (power-positive (negsuc a) (n / 2 + n / 2) (omega arith)) in
        grind (arith, ints)

-- an even power is not below 0
pub even-sign : (x : ℤ) (n : ℕ) → (n % 2 ≡ 1 → ⊥) → false ≡ int_lt (int_pow x n) (pos 0)
even-sign x n h =
    let e : n / 2 + n / 2 ≡ n = omega arith in
    let k = subst (λ (m : ℕ). pos 0 ≤ℤ int_pow x m) e (power-even x (n / 2)) in
    grind (arith, ints)

pub ruleset signs = (odd-sign, even-sign)
