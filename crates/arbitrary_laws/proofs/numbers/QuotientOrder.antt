-- The order of a quotient, its dividend, its divisor and other quotients, and of a product that is divided again,
-- such as a scaled number. Quotients round toward zero. Callers name the set `quotient_order`.
use Rattle.std.specs.Prelude.{◌≡◌, ℕ, ℤ, zero, suc, pos, negsuc, int_div, ◌≤◌, ◌<◌, ◌*◌, ◌/◌, ◌≤ℤ◌, ◌<ℤ◌, ◌*ℤ◌}
use Rattle.std.proofs.Common.{refl, ap, arith, div-le_self, le_trans, mul-le-mul}
use Rattle.std.proofs.Math.Nat.{div-div-eq-div-mul, div-eq_of_lt, div-mul-le_self, le-div_iff_mul-le, le_refl, mul-div_cancel}
use Rattle.std.proofs.lemmas.Int.{ints}

-- ---- of numbers from 0 up

-- the first part says nothing: it shows the search the quotient
pub quotient-beside : (a b : ℕ) → (a / b ≡ a / b) × (a / b ≤ a)
quotient-beside a b = (refl, div-le_self a b)

pub quotient-orders : (a b c : ℕ) → a ≤ b → a / c ≤ b / c
quotient-orders a b zero h = omega arith
quotient-orders a b (suc c) h = (le-div_iff_mul-le {k = suc c} {x = a / suc c} {y = b} (omega arith)).1 (le_trans (div-mul-le_self a (suc c)) h)

pub quotient-by_more : (a b c : ℕ) → 0 < b → b ≤ c → a / c ≤ a / b
quotient-by_more a b c g h =
    (le-div_iff_mul-le {k = b} {x = a / c} {y = a} g).1 (le_trans (mul-le-mul (le_refl (a / c)) h) (div-mul-le_self a c))

pub quotient-of_product : (a b : ℕ) → 0 < b → a * b / b ≡ a
quotient-of_product a b h = mul-div_cancel a h

pub quotient-of_quotient : (a b c : ℕ) → a / b / c ≡ a / (b * c)
quotient-of_quotient a b c = div-div-eq-div-mul a b c

-- b of c equal parts of a number: at most the number where b is at most c
pub quotient-of_parts : (a b c : ℕ) → 0 < c → (a * b / c ≡ a * b / c) × (a ≤ c → a * b / c ≤ b) × (b ≤ c → a * b / c ≤ a)
quotient-of_parts a b c g = (refl, parts a b, λ h. let t : a * b ≡ b * a = grind arith in omega (arith, ap (λ (n : ℕ). n / c) t, parts b a h))
  where
    parts : (a b : ℕ) → a ≤ c → a * b / c ≤ b
    parts a b h =
        let w : a * b ≤ c * b = mul-le-mul h (le_refl b) in
        let t : c * b ≡ b * c = grind arith in
        omega (arith, quotient-orders (a * b) (b * c) c (omega arith), mul-div_cancel b g)

-- ---- of numbers with a sign

-- the first part says nothing, as above
pub signed_quotient-beside : (x y : ℤ) → pos 0 <ℤ y
    → (int_div x y ≡ int_div x y) × (pos 0 ≤ℤ x → (pos 0 ≤ℤ int_div x y) × (int_div x y ≤ℤ x)) × (x ≤ℤ pos 0 → (x ≤ℤ int_div x y) × (int_div x y ≤ℤ pos 0))
signed_quotient-beside x (negsuc b) h = absurd (omega (arith, ints))
signed_quotient-beside (pos a) (pos b) h =
    let d = div-le_self a b in
    let z : a ≡ 0 → a / b ≡ 0 = λ e. omega arith in
    (refl, λ g. (omega (arith, ints), omega (arith, ints)), λ g. let e = z (omega (arith, ints)) in (omega (arith, ints), omega (arith, ints)))
signed_quotient-beside (negsuc a) (pos b) h =
    let d = div-le_self (suc a) b in
    (refl, λ g. absurd (omega (arith, ints)), λ g. (omega (arith, ints), omega (arith, ints)))

pub signed_quotient-below : (x y : ℤ) → pos 0 ≤ℤ x → x <ℤ y → int_div x y ≡ pos 0
signed_quotient-below (negsuc a) y h g = absurd (omega (arith, ints))
signed_quotient-below (pos a) (negsuc b) h g = absurd (omega (arith, ints))
signed_quotient-below (pos a) (pos b) h g = let e : a / b ≡ 0 = div-eq_of_lt (omega (arith, ints)) in omega (arith, ints)

pub signed_quotient-orders : (x y z : ℤ) → pos 0 <ℤ z → x ≤ℤ y → int_div x z ≤ℤ int_div y z
signed_quotient-orders x y (negsuc c) h g = absurd (omega (arith, ints))
signed_quotient-orders (pos a) (pos b) (pos c) h g = let d = quotient-orders a b c (omega (arith, ints)) in omega (arith, ints)
signed_quotient-orders (pos a) (negsuc b) (pos c) h g = absurd (omega (arith, ints))
signed_quotient-orders (negsuc a) (pos b) (pos c) h g = omega (arith, ints)
signed_quotient-orders (negsuc a) (negsuc b) (pos c) h g = let d = quotient-orders (suc b) (suc a) c (omega (arith, ints)) in omega (arith, ints)

pub signed_quotient-by_more : (x y z : ℤ) → pos 0 ≤ℤ x → pos 0 <ℤ y → y ≤ℤ z → int_div x z ≤ℤ int_div x y
signed_quotient-by_more (negsuc a) y z h g l = absurd (omega (arith, ints))
signed_quotient-by_more (pos a) (negsuc b) z h g l = absurd (omega (arith, ints))
signed_quotient-by_more (pos a) (pos b) (negsuc c) h g l = absurd (omega (arith, ints))
signed_quotient-by_more (pos a) (pos b) (pos c) h g l = let d = quotient-by_more a b c (omega (arith, ints)) (omega (arith, ints)) in omega (arith, ints)

pub signed_quotient-of_parts : (x y z : ℤ) → pos 0 ≤ℤ x → pos 0 ≤ℤ y → pos 0 <ℤ z
    → (int_div (x *ℤ y) z ≡ int_div (x *ℤ y) z) × (x ≤ℤ z → int_div (x *ℤ y) z ≤ℤ y) × (y ≤ℤ z → int_div (x *ℤ y) z ≤ℤ x)
signed_quotient-of_parts (negsuc a) y z f g h = absurd (omega (arith, ints))
signed_quotient-of_parts (pos a) (negsuc b) z f g h = absurd (omega (arith, ints))
signed_quotient-of_parts (pos a) (pos b) (negsuc c) f g h = absurd (omega (arith, ints))
signed_quotient-of_parts (pos a) (pos b) (pos c) f g h =
    let s = quotient-of_parts a b c (omega (arith, ints)) in
    (refl, λ l. let d = s.1 (omega (arith, ints)) in omega (arith, ints), λ l. let d = s.2 (omega (arith, ints)) in omega (arith, ints))

pub ruleset quotient_order = (quotient-beside, quotient-orders, quotient-of_product, quotient-of_quotient, signed_quotient-beside, signed_quotient-below, signed_quotient-orders, signed_quotient-by_more)

-- a number that is multiplied and divided by no less, as in percent
pub ruleset scaled_numbers = (quotient-of_parts, signed_quotient-of_parts)
