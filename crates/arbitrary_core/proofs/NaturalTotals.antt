-- A sum or a product of unsigned numbers, as one of natural numbers.
use Rattle.std.specs.Prelude.{◌≡◌, ◌+◌, ◌*◌, ◌^◌, ◌<◌, ◌≤◌, ℕ, ℤ, pos, ◌+ℤ◌, ◌*ℤ◌, unsigned_abs, Bool, true, false, List, [], ◌∷◌}
use Rattle.std.proofs.Common.{refl, arith, ap, sym, subst, ◌∙◌}
use Rattle.std.proofs.lemmas.Int.{ints}
use Rattle.std.specs.List.{fold}
use Rattle.arbitrary_base.specs.Range.{InRange}
use Rattle.arbitrary_base.proofs.bit_lists.StdBitwise.{not_below_zero}
use Rattle.arbitrary_base.proofs.integers.Ring.{pos-unsigned_abs}
use Rattle.arbitrary_base.proofs.modular.Congruence.{pow_le}

sum_of_naturals : (n : ℕ) (l : List ℤ) → fold (λ a x. a +ℤ pos (unsigned_abs x)) (pos n) l ≡ pos (fold (λ a x. a + unsigned_abs x) n l)
sum_of_naturals n [] = refl
sum_of_naturals n (x ∷ l) = sum_of_naturals (n + unsigned_abs x) l

product_of_naturals : (n : ℕ) (l : List ℤ) → fold (λ a x. a *ℤ pos (unsigned_abs x)) (pos n) l ≡ pos (fold (λ a x. a * unsigned_abs x) n l)
product_of_naturals n [] = refl
product_of_naturals n (x ∷ l) = product_of_naturals (n * unsigned_abs x) l

-- the same from a number that is known to be natural
pub natural_sum : (z : ℤ) (n : ℕ) (l : List ℤ) → z ≡ pos n → fold (λ a x. a +ℤ pos (unsigned_abs x)) z l ≡ pos (fold (λ a x. a + unsigned_abs x) n l)
natural_sum z n l e = ap (λ k. fold (λ a x. a +ℤ pos (unsigned_abs x)) k l) e ∙ sum_of_naturals n l

pub natural_product : (z : ℤ) (n : ℕ) (l : List ℤ) → z ≡ pos n → fold (λ a x. a *ℤ pos (unsigned_abs x)) z l ≡ pos (fold (λ a x. a * unsigned_abs x) n l)
natural_product z n l e = ap (λ k. fold (λ a x. a *ℤ pos (unsigned_abs x)) k l) e ∙ product_of_naturals n l

natural-in_range : (s : Bool) (B n : ℕ) → s ≡ false → n < 2 ^ B → InRange s B (pos n)
natural-in_range true B n e h = absurd (cc)
natural-in_range false B n e h = record { low = omega (arith, ints); high = omega (arith, ints) }

-- a number that is equal to a natural one in range
pub in_range-natural : (s : Bool) (B n : ℕ) (z : ℤ) → s ≡ false → z ≡ pos n → n < 2 ^ B → InRange s B z
in_range-natural s B n z e f h = subst (InRange s B) (sym f) (natural-in_range s B n e h)

pub in_range-one : (s : Bool) (B : ℕ) → s ≡ false → 1 ≤ B → InRange s B (pos 1)
in_range-one s B e h = natural-in_range s B 1 e (let p = pow_le 1 B h in omega arith)

-- a sum with a number that is known to be natural
pub fits-with_natural : (s : Bool) (B : ℕ) (a x : ℤ) → s ≡ false → InRange s B (a +ℤ pos (unsigned_abs x)) → InRange s B x → InRange s B (a +ℤ x)
fits-with_natural s B a x e k f = subst (λ z. InRange s B (a +ℤ z)) (pos-unsigned_abs x (not_below_zero s B x e f)) k

pub sum-of_natural : (s : Bool) (B : ℕ) (a x r : ℤ) → s ≡ false → InRange s B x → r ≡ a +ℤ x → r ≡ a +ℤ pos (unsigned_abs x)
sum-of_natural s B a x r e f d = d ∙ ap (λ z. a +ℤ z) (sym (pos-unsigned_abs x (not_below_zero s B x e f)))

-- and a product by one
pub fits-by_natural : (s : Bool) (B : ℕ) (a x : ℤ) → s ≡ false → InRange s B (a *ℤ pos (unsigned_abs x)) → InRange s B x → InRange s B (a *ℤ x)
fits-by_natural s B a x e k f = subst (λ z. InRange s B (a *ℤ z)) (pos-unsigned_abs x (not_below_zero s B x e f)) k
