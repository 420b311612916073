-- Numbers of at most 16 bits, stored in 64.
use Rattle.std.specs.Prelude.{◌≡◌, ◌↔◌, ℕ, ℤ, Bool, true, false, pos, negsuc, neg_ℤ, ◌+ℤ◌, ◌-ℤ◌, ◌*ℤ◌, ◌≤ℤ◌, ◌-◌, ◌≤◌, int_lt, int_le, IsTrue, unsigned_abs, FitsSigned}
use Rattle.std.specs.Int.{w64}
use Rattle.std.proofs.Common.{arith, sym, subst, ◌∙◌, lit≤}
use Rattle.std.proofs.lemmas.Int.{ints, fits_signed_mul}
use Rattle.arbitrary_base.specs.Range.{lo, hi, InRange}
use Rattle.arbitrary_base.specs.Residue.{wrap}
use Rattle.arbitrary_base.specs.Saturating.{clamp}
use Rattle.arbitrary_base.proofs.modular.Congruence.{pow_le}
use Rattle.arbitrary_base.proofs.modular.Residue.{wrap-of_in_range}
use Rattle.arbitrary_base.proofs.modular.Truncation.{InRange-wider}
use Rattle.arbitrary_base.proofs.storages.Primitive.{signed-fits}
use Rattle.arbitrary_base.proofs.storages.Clamp.{clamp-in_range, clamp-below, clamp-above}

-- 64 bits have each number of either sign
InRange-64 : (s : Bool) (W : ℕ) (x : ℤ) → 1 ≤ W → W ≤ 16 → InRange s W x → InRange true 64 x
InRange-64 false W x h g i =
    let a = pow_le W 16 g in let l = i.low in let u = i.high in
    record { low = omega (arith, ints); high = omega (arith, ints) }
InRange-64 true W x h g i = InRange-wider true W 64 x h (omega arith) i

pub small-number : (s : Bool) (W : ℕ) (x z : ℤ) → 1 ≤ W → W ≤ 16 → InRange s W x → z ≡ wrap true 64 x → z ≡ x
small-number s W x z h g i e = e ∙ wrap-of_in_range true 64 x (lit≤ tt) (InRange-64 s W x h g i)

-- and each sum and difference
small-bounds : (s : Bool) (W : ℕ) (x : ℤ) → W ≤ 16 → InRange s W x → neg_ℤ (pos 65536) ≤ℤ x × x ≤ℤ pos 65536
small-bounds false W x g i = let a = pow_le W 16 g in let l = i.low in let u = i.high in (omega (arith, ints), omega (arith, ints))
small-bounds true W x g i = let a = pow_le (W - 1) 16 (omega arith) in let l = i.low in let u = i.high in (omega (arith, ints), omega (arith, ints))

pub small-sum : (s : Bool) (W : ℕ) (x y a b : ℤ) → W ≤ 16 → InRange s W x → InRange s W y → a ≡ x → b ≡ y → FitsSigned w64 (a +ℤ b) × FitsSigned w64 (a -ℤ b)
small-sum s W x y a b g i j e f =
    let m = small-bounds s W x g i in let n = small-bounds s W y g j in
    let k = m.0 in let l = m.1 in let p = n.0 in let q = n.1 in (
      signed-fits w64 (a +ℤ b) (record { low = omega (arith, ints); high = omega (arith, ints) }),
      signed-fits w64 (a -ℤ b) (record { low = omega (arith, ints); high = omega (arith, ints) }),
    )

-- and each product
small-size : (s : Bool) (W : ℕ) (x : ℤ) → 1 ≤ W → W ≤ 16 → InRange s W x → unsigned_abs x ≤ 65536
small-size false W (pos n) h g i = let a = pow_le W 16 g in let u = i.high in omega (arith, ints)
small-size false W (negsuc n) h g i = let l = i.low in absurd (omega (arith, ints))
small-size true W (pos n) h g i = let a = pow_le (W - 1) 16 (omega arith) in let u = i.high in omega (arith, ints)
small-size true W (negsuc n) h g i = let a = pow_le (W - 1) 16 (omega arith) in let l = i.low in omega (arith, ints)

pub small-product : (s : Bool) (W : ℕ) (x y a b : ℤ) → 1 ≤ W → W ≤ 16 → InRange s W x → InRange s W y → a ≡ x → b ≡ y → FitsSigned w64 (a *ℤ b)
small-product s W x y a b h g i j e f =
    subst (λ (v : ℤ). FitsSigned w64 v) (sym (λ k. e k *ℤ f k))
    (fits_signed_mul w64 x y 65536 65536 (small-size s W x h g i) (small-size s W y h g j) (lit≤ tt))

pub ruleset products = (small-product)

-- in range, by both ends, of which the lower one is tested first
-- the code reads the numbers x, l and h as a, b and c
pub below_end : (s : Bool) (B : ℕ) (x l a b : ℤ) → a ≡ x → b ≡ l → l ≡ lo s B → int_le b a ≡ false → IsTrue (int_le b a) ↔ InRange s B x
below_end s B x l a b k m e t = ((λ u. cc), (λ i. let p = i.low in absurd (grind (arith, ints))))

pub up_to_end : (s : Bool) (B : ℕ) (x l h a b c : ℤ) → a ≡ x → b ≡ l → c ≡ h → l ≡ lo s B → h ≡ hi s B → int_le b a ≡ true → IsTrue (int_le a c) ↔ InRange s B x
up_to_end s B x l h a b c k m n e f t =
    ((λ u. record { low = grind (arith, ints); high = grind (arith, ints) }), (λ i. let p = i.high in grind (arith, ints)))

-- clamped, by the tests that the code makes
pub end-low : (s : Bool) (B : ℕ) (x l a b : ℤ) → a ≡ x → b ≡ l → l ≡ lo s B → int_lt a b ≡ true → b ≡ clamp s B x
end-low s B x l a b k m e p = m ∙ e ∙ sym (clamp-below s B x (let t : int_lt x l ≡ true = rw (← k, ← m) p in grind (arith, ints)))

pub end-high : (s : Bool) (B : ℕ) (x l h a b c : ℤ) → 1 ≤ B → a ≡ x → b ≡ l → c ≡ h → l ≡ lo s B → h ≡ hi s B → int_lt a b ≡ false → int_lt c a ≡ true → c ≡ clamp s B x
end-high s B x l h a b c one k m n e f p q = n ∙ f ∙ sym (clamp-above s B x one (let t : int_lt h x ≡ true = rw (← k, ← n) q in grind (arith, ints)))

pub between-ends : (s : Bool) (B : ℕ) (x l h a b c : ℤ) → a ≡ x → b ≡ l → c ≡ h → l ≡ lo s B → h ≡ hi s B → int_lt a b ≡ false → int_lt c a ≡ false → a ≡ clamp s B x
between-ends s B x l h a b c k m n e f p q =
    let t : int_lt x l ≡ false = rw (← k, ← m) p in
    let u : int_lt h x ≡ false = rw (← k, ← n) q in
    clamp-in_range s B x a (record { low = grind (arith, ints); high = grind (arith, ints) }) k
