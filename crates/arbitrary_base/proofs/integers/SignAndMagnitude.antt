-- A product, computed from the magnitudes and the signs of its factors.
use Rattle.std.specs.Prelude.{◌≡◌, ℕ, ℤ, Bool, true, false, not, pos, neg_ℤ, ◌*ℤ◌, ◌+◌, ◌*◌, ◌/◌, ◌%◌, ◌^◌, ◌<◌, int_lt, unsigned_abs, if◌then◌else◌}
use Rattle.std.specs.Int.{w128, cast_signed}
use mathlib.Core.Bool.{beq}
use Rattle.std.proofs.Common.{arith, refl, ap, sym, ◌∙◌}
use Rattle.std.proofs.Math.Nat.{div-add-mod'}
use Rattle.std.proofs.lemmas.Int.{ints}
use Rattle.arbitrary_base.specs.Residue.{wrap}
use Rattle.arbitrary_base.proofs.integers.Ring.{mul-from_zero, mul-both_below, mul-first_below, mul-second_below}
use Rattle.arbitrary_base.proofs.modular.Congruence.{Congruent-from_apart}
use Rattle.arbitrary_base.proofs.modular.Residue.{wrap-same}
use Rattle.arbitrary_base.proofs.storages.Primitive.{mod-congruent, signed-from_small}
use Rattle.arbitrary_base.proofs.storages.Clamp.{below-true, below-false}

-- the truncation of the sizes' product, with the sign
from_size : (m n : ℕ) (z : ℤ) → n ≡ m % 2 ^ 128 → z ≡ pos m → wrap true 128 (pos n) ≡ wrap true 128 z
from_size m n z e f = (λ i. wrap true 128 (pos (e i))) ∙ wrap-same true 128 _ _ (mod-congruent 128 m) ∙ ap (wrap true 128) (sym f)

from_size_below : (m n : ℕ) (z : ℤ) → n ≡ m % 2 ^ 128 → z ≡ neg_ℤ (pos m) → wrap true 128 (neg_ℤ (pos n)) ≡ wrap true 128 z
from_size_below m n z e f =
    let d = div-add-mod' m (2 ^ 128) in
    wrap-same true 128 _ _ (Congruent-from_apart 128 (neg_ℤ (pos n)) z (0, m / 2 ^ 128, omega (arith, ints)))

pub mul-by_sizes : (x y r : ℤ) (n : ℕ) (a b : Bool) → n ≡ (unsigned_abs x * unsigned_abs y) % 2 ^ 128 → a ≡ int_lt x (pos 0) → b ≡ int_lt y (pos 0)
    → r ≡ wrap true 128 (if not (beq a b) then neg_ℤ (pos n) else pos n) → r ≡ wrap true 128 (x *ℤ y)
mul-by_sizes x y r n true true e f g h = h ∙ from_size _ n _ e (mul-both_below x y (below-true x true f refl) (below-true y true g refl))
mul-by_sizes x y r n false false e f g h = h ∙ from_size _ n _ e (mul-from_zero x y (below-false x false f refl) (below-false y false g refl))
mul-by_sizes x y r n true false e f g h = h ∙ from_size_below _ n _ e (mul-first_below x y (below-true x true f refl) (below-false y false g refl))
mul-by_sizes x y r n false true e f g h = h ∙ from_size_below _ n _ e (mul-second_below x y (below-false x false f refl) (below-true y true g refl))

-- the pattern that makes zero with n
pub cast_signed-negated : (n p : ℕ) → p < 2 ^ 128 → (p + n) % 2 ^ 128 ≡ 0 → cast_signed w128 p ≡ wrap true 128 (neg_ℤ (pos n))
cast_signed-negated n p h e =
    let d = div-add-mod' (p + n) (2 ^ 128) in
    signed-from_small w128 p h
    ∙ wrap-same true 128 (pos p) (neg_ℤ (pos n)) (Congruent-from_apart 128 (pos p) (neg_ℤ (pos n)) (0, (p + n) / 2 ^ 128, omega (arith, ints)))

pub ruleset signs = (cast_signed-negated, signed-from_small)
