-- The laws of a ring that std's ℤ lacks.
use Rattle.std.specs.Prelude.{◌≡◌, ℕ, ℤ, pos, negsuc, neg_ℤ, ◌+ℤ◌, ◌-ℤ◌, ◌*ℤ◌, ◌≤ℤ◌, ◌<ℤ◌, ◌+◌, ◌*◌, unsigned_abs}
use Rattle.std.proofs.Common.{arith, refl, ap, sym, ◌∙◌}
use Rattle.std.proofs.lemmas.Int.{ints}
use borrow.Author.Differences.{up, down, sum_is_lem, product_is}

pub add-mul_z : (a b c : ℤ) → (a +ℤ b) *ℤ c ≡ a *ℤ c +ℤ b *ℤ c
add-mul_z a b c =
    let s = sum_is_lem a b in
    let u = ap (λ (n : ℕ). n * up c) s in
    let d = ap (λ (n : ℕ). n * down c) s in
    omega (arith, ints)

-- a number has a part up and a part down, and a product has the parts that `product_is` says
by_parts : (x y : ℤ) → up x ≡ up y → down x ≡ down y → x ≡ y
by_parts x y e f = omega (arith, ints)

parts : (a b c d e f : ℕ) → (a * c + b * d) * e + (a * d + b * c) * f ≡ a * (c * e + d * f) + b * (c * f + d * e)
parts a b c d e f = omega arith

pub mul_assoc_z : (a b c : ℤ) → (a *ℤ b) *ℤ c ≡ a *ℤ (b *ℤ c)
mul_assoc_z a b c =
    let p = product_is a b in
    let q = product_is b c in
    let r = product_is (a *ℤ b) c in
    let s = product_is a (b *ℤ c) in
    by_parts _ _
    (r.0 ∙ (λ i. p.0 i * up c + p.1 i * down c) ∙ parts (up a) (down a) (up b) (down b) (up c) (down c) ∙ sym (s.0 ∙ (λ i. up a * q.0 i + down a * q.1 i)))
    (r.1 ∙ (λ i. p.0 i * down c + p.1 i * up c) ∙ parts (up a) (down a) (up b) (down b) (down c) (up c) ∙ sym (s.1 ∙ (λ i. up a * q.1 i + down a * q.0 i)))

zero-mul_z : (b : ℤ) → pos 0 *ℤ b ≡ pos 0
zero-mul_z b = omega (arith, ints)

neg-add_z : (a : ℤ) → neg_ℤ a +ℤ a ≡ pos 0
neg-add_z a = omega (arith, ints)

pub neg-mul_z : (a b : ℤ) → neg_ℤ a *ℤ b ≡ neg_ℤ (a *ℤ b)
neg-mul_z a b =
    let n : neg_ℤ a *ℤ b +ℤ a *ℤ b ≡ pos 0 = sym (add-mul_z (neg_ℤ a) a b) ∙ ap (λ (z : ℤ). z *ℤ b) (neg-add_z a) ∙ zero-mul_z b in
    omega (arith, ints)

pub sub-mul_z : (a b c : ℤ) → (a -ℤ b) *ℤ c ≡ a *ℤ c -ℤ b *ℤ c
sub-mul_z a b c = add-mul_z a (neg_ℤ b) c ∙ ap (λ (z : ℤ). a *ℤ c +ℤ z) (neg-mul_z b c)

-- a number from 0 up is its size
pub pos-unsigned_abs : (z : ℤ) → pos 0 ≤ℤ z → pos (unsigned_abs z) ≡ z
pos-unsigned_abs (pos n) h = refl
pos-unsigned_abs (negsuc n) h = absurd (omega (arith, ints))

-- a product, from the sizes of its factors and their signs
pub mul-from_zero : (x y : ℤ) → pos 0 ≤ℤ x → pos 0 ≤ℤ y → x *ℤ y ≡ pos (unsigned_abs x * unsigned_abs y)
mul-from_zero (pos a) (pos b) f g = omega (arith, ints)
mul-from_zero (pos a) (negsuc b) f g = absurd (omega (arith, ints))
mul-from_zero (negsuc a) y f g = absurd (omega (arith, ints))

pub mul-both_below : (x y : ℤ) → x <ℤ pos 0 → y <ℤ pos 0 → x *ℤ y ≡ pos (unsigned_abs x * unsigned_abs y)
mul-both_below (negsuc a) (negsuc b) f g = omega (arith, ints)
mul-both_below (pos a) y f g = absurd (omega (arith, ints))
mul-both_below (negsuc a) (pos b) f g = absurd (omega (arith, ints))

pub mul-first_below : (x y : ℤ) → x <ℤ pos 0 → pos 0 ≤ℤ y → x *ℤ y ≡ neg_ℤ (pos (unsigned_abs x * unsigned_abs y))
mul-first_below (negsuc a) (pos b) f g = omega (arith, ints)
mul-first_below (pos a) y f g = absurd (omega (arith, ints))
mul-first_below (negsuc a) (negsuc b) f g = absurd (omega (arith, ints))

pub mul-second_below : (x y : ℤ) → pos 0 ≤ℤ x → y <ℤ pos 0 → x *ℤ y ≡ neg_ℤ (pos (unsigned_abs x * unsigned_abs y))
mul-second_below (pos a) (negsuc b) f g = omega (arith, ints)
mul-second_below (negsuc a) y f g = absurd (omega (arith, ints))
mul-second_below (pos a) (pos b) f g = absurd (omega (arith, ints))
