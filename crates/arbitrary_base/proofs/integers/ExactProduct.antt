-- A quotient of an exact product returns the other factor, and a quotient of a wrapped product does not. The test
-- of a product in src/raised.rt uses this. Quotient.antt has laws of quotients alone.
use Rattle.std.specs.Prelude.{◌≡◌, ◌≢◌, ◌↔◌, ℕ, ℤ, Bool, true, false, zero, suc, pos, negsuc, ◌+ℤ◌, ◌-ℤ◌, ◌*ℤ◌, ◌≤ℤ◌, ◌*◌, ◌/◌, ◌-◌, ◌^◌, ◌≤◌, ◌<◌, IsTrue, int_div, int_rem, unsigned_abs}
use Rattle.std.specs.Ordering.{int_eq}
use Rattle.std.proofs.lemmas.Bool.Decides.{Decides-int_eq}
use Rattle.std.proofs.Common.{arith, refl, ap, sym, subst, ◌∙◌, div-le_self}
use Rattle.std.proofs.Math.Nat.{div-add-mod'}
use Rattle.std.proofs.Math.IntN.{*ℤ_comm}
use Rattle.std.proofs.lemmas.Int.{ints, quot-rem, rem_below, unsigned_abs-mul}
use Rattle.std.proofs.lemmas.Nat.{pow_pos}
use Rattle.arbitrary_base.specs.Range.{hi, InRange}
use Rattle.arbitrary_base.specs.Residue.{Congruent, wrap}
use Rattle.arbitrary_base.proofs.integers.Ring.{sub-mul_z, mul_assoc_z}
use Rattle.arbitrary_base.proofs.modular.Congruence.{pow_half, times}
use Rattle.arbitrary_base.proofs.modular.Residue.{wrap-congruent, wrap-in_range, wrap-of_in_range}
use Rattle.arbitrary_base.proofs.integers.Quotient.{low_enough}
use Rattle.arbitrary_base.proofs.storages.RaisedNumber.{raised-InRange}

-- half of the range at most, where the divisor is -2 or less
half-at-most : (h m n : ℕ) → 1 ≤ h → m ≤ h → m / suc (suc n) < h
half-at-most h m n p q = let e = div-add-mod' m (suc (suc n)) in omega arith

-- a quotient by any number but -1 is in range
quotient-InRange : (s : Bool) (W : ℕ) (p a : ℤ) → 1 ≤ W → InRange s W p → InRange s W a → a ≢ negsuc 0 → InRange s W (int_div p a)
quotient-InRange s W p a h f g n = record { low = low_enough s W p a h f g; high = at_most s p a f g n }
  where
    at_most : (s : Bool) (p a : ℤ) → InRange s W p → InRange s W a → a ≢ negsuc 0 → int_div p a ≤ℤ hi s W
    at_most false (pos m) (pos k) f g n = let d = div-le_self m k in let u = f.high in omega (arith, ints)
    at_most false (pos m) (negsuc k) f g n = let l = g.low in absurd (omega (arith, ints))
    at_most false (negsuc m) a f g n = let l = f.low in absurd (omega (arith, ints))
    at_most true (pos m) (pos k) f g n = let d = div-le_self m k in let u = f.high in omega (arith, ints)
    at_most true (pos m) (negsuc k) f g n = let q = pow_pos (W - 1) in omega (arith, ints)
    at_most true (negsuc m) (pos k) f g n = let q = pow_pos (W - 1) in omega (arith, ints)
    at_most true (negsuc m) (negsuc zero) f g n = absurd (n refl)
    at_most true (negsuc m) (negsuc (suc k)) f g n =
        let q = pow_pos (W - 1) in let l = f.low in
        let d = half-at-most (2 ^ (W - 1)) (suc m) k q (omega (arith, ints)) in
        omega (arith, ints)

-- a product that is smaller than a factor is that of 0
none-left : (c k r : ℕ) → c * k ≡ r → r < k → c ≡ 0
none-left zero k r e l = refl
none-left (suc c) k r e l = absurd (omega arith)

size-zero : (z : ℤ) → unsigned_abs z ≡ 0 → z ≡ pos 0
size-zero (pos n) e = ap pos e
size-zero (negsuc n) e = absurd (omega arith)

-- the quotient of an exact product
quotient-of_product : (a y : ℤ) → 0 < unsigned_abs a → int_div (y *ℤ a) a ≡ y
quotient-of_product a y h =
    let d = int_div (y *ℤ a) a in
    let q : d *ℤ a +ℤ int_rem (y *ℤ a) a ≡ y *ℤ a = quot-rem (y *ℤ a) a in
    let r = rem_below (y *ℤ a) a h in
    let e : (y -ℤ d) *ℤ a ≡ int_rem (y *ℤ a) a = sub-mul_z y d a ∙ omega (arith, ints) in
    let f : unsigned_abs (y -ℤ d) * unsigned_abs a ≡ unsigned_abs (int_rem (y *ℤ a) a) = sym (unsigned_abs-mul (y -ℤ d) a) ∙ ap unsigned_abs e in
    let z = size-zero (y -ℤ d) (none-left (unsigned_abs (y -ℤ d)) (unsigned_abs a) _ f r) in
    omega (arith, ints)

size-InRange : (s : Bool) (W : ℕ) (a : ℤ) → 1 ≤ W → InRange s W a → unsigned_abs a ≤ 2 ^ W
size-InRange false W (pos n) h f = let u = f.high in omega (arith, ints)
size-InRange false W (negsuc n) h f = let l = f.low in absurd (omega (arith, ints))
size-InRange true W (pos n) h f = let u = f.high in let p = pow_half W h in omega (arith, ints)
size-InRange true W (negsuc n) h f = let l = f.low in let p = pow_half W h in omega (arith, ints)

-- a wrapped product that gives the factor back is exact
product-exact : (s : Bool) (W : ℕ) (a y p : ℤ) → 1 ≤ W → InRange s W a → 0 < unsigned_abs a → p ≡ wrap s W (y *ℤ a) → int_div p a ≡ y → p ≡ y *ℤ a
product-exact s W a y p h f n e g =
    let q : int_div p a *ℤ a +ℤ int_rem p a ≡ p = quot-rem p a in
    let j : y *ℤ a +ℤ int_rem p a ≡ p = subst (λ (z : ℤ). z *ℤ a +ℤ int_rem p a ≡ p) g q in
    let r = rem_below p a n in
    let z = size-InRange s W a h f in
    let c : Congruent W p (y *ℤ a) = subst (λ (v : ℤ). Congruent W v (y *ℤ a)) (sym e) (wrap-congruent s W (y *ℤ a)) in
    let k = times W p (y *ℤ a) c in
    let i : k.0 *ℤ pos (2 ^ W) ≡ int_rem p a = sym k.1 ∙ omega (arith, ints) in
    let l : unsigned_abs k.0 * 2 ^ W ≡ unsigned_abs (int_rem p a) = sym (unsigned_abs-mul k.0 (pos (2 ^ W))) ∙ ap unsigned_abs i in
    let o = none-left (unsigned_abs k.0) (2 ^ W) _ l (omega arith) in
    let t : 0 * 2 ^ W ≡ unsigned_abs (int_rem p a) = subst (λ (m : ℕ). m * 2 ^ W ≡ unsigned_abs (int_rem p a)) o l in
    let u : unsigned_abs (int_rem p a) ≡ 0 = omega arith in
    let v = size-zero (int_rem p a) u in
    omega (arith, ints)

some-size : (a : ℤ) → a ≢ pos 0 → 0 < unsigned_abs a
some-size (pos zero) h = absurd (h refl)
some-size (pos (suc n)) h = omega arith
some-size (negsuc n) h = omega arith

-- the test b of the quotient q, where the test t found that a factor is not 0
pub product-test : (s : Bool) (W : ℕ) (a y p q : ℤ) (t b : Bool) → 1 ≤ W → InRange s W a → InRange s W y → t ≡ int_eq a (pos 0) → t ≡ false → a ≢ negsuc 0
    → p ≡ wrap s W (a *ℤ y) → q ≡ wrap s W (int_div p a) → b ≡ int_eq q y → IsTrue b ↔ InRange s W (a *ℤ y)
product-test s W a y p q t b h f g o n m e k u = subst (λ (v : ℤ). IsTrue b ↔ InRange s W v) (*ℤ_comm y a) tested
  where
    some : a ≢ pos 0
    some z = let c : IsTrue t = subst (λ (r : Bool). IsTrue r) (sym o) ((Decides-int_eq a (pos 0)).1 z) in cc

    stays : p ≡ wrap s W (y *ℤ a)
    stays = e ∙ ap (wrap s W) (*ℤ_comm a y)

    within : InRange s W p
    within = subst (λ (v : ℤ). InRange s W v) (sym e) (wrap-in_range s W (a *ℤ y) h)

    quotient : q ≡ int_div p a
    quotient = k ∙ wrap-of_in_range s W (int_div p a) h (quotient-InRange s W p a h within f m)

    tested : IsTrue b ↔ InRange s W (y *ℤ a)
    tested = let d = Decides-int_eq q y in (
      (λ v. let r : q ≡ y = d.0 (subst (λ (c : Bool). IsTrue c) u v) in
          subst (λ (z : ℤ). InRange s W z) (product-exact s W a y p h f (some-size a some) stays (sym quotient ∙ r)) within),
      (λ j. let r : p ≡ y *ℤ a = stays ∙ wrap-of_in_range s W (y *ℤ a) h j in
          subst (λ (c : Bool). IsTrue c) (sym u) (d.1 (quotient ∙ ap (λ (z : ℤ). int_div z a) r ∙ quotient-of_product a y (some-size a some)))),
    )

-- a number that is moved up by a place or more is even
pub raised-even : (k : ℕ) (x a : ℤ) → 1 ≤ k → a ≡ x *ℤ pos (2 ^ k) → a ≢ negsuc 0
raised-even k x a h e f =
    let p = pow_half k h in
    let s : unsigned_abs x * 2 ^ k ≡ 1 = sym (unsigned_abs-mul x (pos (2 ^ k))) ∙ ap unsigned_abs (sym e ∙ f) in
    let t : unsigned_abs x * (2 * 2 ^ (k - 1)) ≡ 1 = subst (λ (n : ℕ). unsigned_abs x * n ≡ 1) p s in
    omega arith

-- the product of a multiple is that of the product
pub raised-product : (k : ℕ) (x y a : ℤ) → a ≡ x *ℤ pos (2 ^ k) → a *ℤ y ≡ (x *ℤ y) *ℤ pos (2 ^ k)
raised-product k x y a e =
    ap (λ (z : ℤ). z *ℤ y) e ∙ mul_assoc_z x (pos (2 ^ k)) y ∙ ap (λ (z : ℤ). x *ℤ z) (*ℤ_comm (pos (2 ^ k)) y) ∙ sym (mul_assoc_z x y (pos (2 ^ k)))

pub raised-in : (s : Bool) (B W : ℕ) (x a : ℤ) → 1 ≤ B → B ≤ W → InRange s B x → a ≡ x *ℤ pos (2 ^ (W - B)) → InRange s W a
raised-in s B W x a h g i e = subst (λ (z : ℤ). InRange s W z) (sym e) ((raised-InRange s B W x h g).1 i)
