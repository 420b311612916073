-- The laws of sums, differences and products that wrap.
use Rattle.std.specs.Prelude.{Bool, neg_ℤ, pos, ℕ, ℤ, ◌*ℤ◌, ◌+ℤ◌, ◌-ℤ◌, ◌≡◌, ◌≤◌}
use Rattle.std.proofs.Common.{ap, ap₂, arith, subst, sym, ◌∙◌}
use Rattle.std.proofs.Math.IntN.{*ℤ_comm}
use Rattle.std.proofs.lemmas.Int.{ints}
use Rattle.arbitrary_base.specs.Operation.{wrapped_difference, wrapped_product, wrapped_sum}
use Rattle.arbitrary_base.specs.Range.{InRange}
use Rattle.arbitrary_base.specs.Residue.{Congruent, wrap}
use Rattle.arbitrary_base.proofs.integers.Ring.{add-mul_z, mul_assoc_z, sub-mul_z}
use Rattle.arbitrary_base.proofs.modular.Congruence.{Congruent-add, Congruent-mul, Congruent-refl, Congruent-sub, Congruent-sym, Congruent-trans}
use Rattle.arbitrary_base.proofs.modular.Residue.{congruent-same, wrap-congruent, wrap-in_range}
use Rattle.arbitrary_base.proofs.operations.Definition.{difference-is, product-is, sum-is}
use Rattle.arbitrary_base.proofs.storages.CheckedSum.{zero-in_range}

-- ---- in range, and congruent to the exact result

pub sum-in_range : (s : Bool) (B : ℕ) (x y : ℤ) → 1 ≤ B → InRange s B (wrapped_sum s B x y)
sum-in_range s B x y h = subst (InRange s B) (sym (sum-is s B x y)) (wrap-in_range s B (x +ℤ y) h)

-- whatever its operands are congruent to
pub sum-congruent : (s : Bool) (B : ℕ) (x y a b : ℤ) → Congruent B x a → Congruent B y b → Congruent B (wrapped_sum s B x y) (a +ℤ b)
sum-congruent s B x y a b c d =
    subst (λ (z : ℤ). Congruent B z (a +ℤ b)) (sym (sum-is s B x y))
    (Congruent-trans B _ (x +ℤ y) _ (wrap-congruent s B (x +ℤ y)) (Congruent-add B x a y b c d))

pub difference-in_range : (s : Bool) (B : ℕ) (x y : ℤ) → 1 ≤ B → InRange s B (wrapped_difference s B x y)
difference-in_range s B x y h = subst (InRange s B) (sym (difference-is s B x y)) (wrap-in_range s B (x -ℤ y) h)

-- whatever its operands are congruent to
pub difference-congruent : (s : Bool) (B : ℕ) (x y a b : ℤ) → Congruent B x a → Congruent B y b → Congruent B (wrapped_difference s B x y) (a -ℤ b)
difference-congruent s B x y a b c d =
    subst (λ (z : ℤ). Congruent B z (a -ℤ b)) (sym (difference-is s B x y))
    (Congruent-trans B _ (x -ℤ y) _ (wrap-congruent s B (x -ℤ y)) (Congruent-sub B x a y b c d))

pub product-in_range : (s : Bool) (B : ℕ) (x y : ℤ) → 1 ≤ B → InRange s B (wrapped_product s B x y)
product-in_range s B x y h = subst (InRange s B) (sym (product-is s B x y)) (wrap-in_range s B (x *ℤ y) h)

-- whatever its operands are congruent to
pub product-congruent : (s : Bool) (B : ℕ) (x y a b : ℤ) → Congruent B x a → Congruent B y b → Congruent B (wrapped_product s B x y) (a *ℤ b)
product-congruent s B x y a b c d =
    subst (λ (z : ℤ). Congruent B z (a *ℤ b)) (sym (product-is s B x y))
    (Congruent-trans B _ (x *ℤ y) _ (wrap-congruent s B (x *ℤ y)) (Congruent-mul B x a y b c d))

-- two numbers of the type that are congruent to one number are the same
pub by-congruence : (s : Bool) (B : ℕ) (x y a b : ℤ) → 1 ≤ B → InRange s B x → InRange s B y → Congruent B x a → Congruent B y b → a ≡ b → x ≡ y
by-congruence s B x y a b h f g c d e =
    congruent-same s B x y h f g (Congruent-trans B x b y (subst (Congruent B x) e c) (Congruent-sym B y b d))

pub wrapped_sum-commutes : (s : Bool) (B : ℕ) (x y : ℤ) → 1 ≤ B → wrapped_sum s B x y ≡ wrapped_sum s B y x
wrapped_sum-commutes s B x y h =
    by-congruence s B _ _ _ _ h (sum-in_range s B _ _ h) (sum-in_range s B _ _ h) (sum-congruent s B _ _ _ _ (Congruent-refl B x) (Congruent-refl B y)) (sum-congruent s B _ _ _ _ (Congruent-refl B y) (Congruent-refl B x)) (omega (arith, ints))

pub wrapped_sum-associates : (s : Bool) (B : ℕ) (x y z : ℤ) → 1 ≤ B → wrapped_sum s B (wrapped_sum s B x y) z ≡ wrapped_sum s B x (wrapped_sum s B y z)
wrapped_sum-associates s B x y z h =
    by-congruence s B _ _ _ _ h (sum-in_range s B _ _ h) (sum-in_range s B _ _ h) (sum-congruent s B _ _ _ _ (sum-congruent s B _ _ _ _ (Congruent-refl B x) (Congruent-refl B y)) (Congruent-refl B z)) (sum-congruent s B _ _ _ _ (Congruent-refl B x) (sum-congruent s B _ _ _ _ (Congruent-refl B y) (Congruent-refl B z))) (omega (arith, ints))

pub wrapped_sum-zero : (s : Bool) (B : ℕ) (x : ℤ) → 1 ≤ B → InRange s B x → wrapped_sum s B x ((pos 0)) ≡ x
wrapped_sum-zero s B x h f =
    by-congruence s B _ _ _ _ h (sum-in_range s B _ _ h) f (sum-congruent s B _ _ _ _ (Congruent-refl B x) (Congruent-refl B (pos 0))) (Congruent-refl B x) (omega (arith, ints))

pub wrapped_difference-self : (s : Bool) (B : ℕ) (x : ℤ) → 1 ≤ B → wrapped_difference s B x x ≡ pos 0
wrapped_difference-self s B x h =
    by-congruence s B _ _ _ _ h (difference-in_range s B _ _ h) (zero-in_range s B h) (difference-congruent s B _ _ _ _ (Congruent-refl B x) (Congruent-refl B x)) (Congruent-refl B (pos 0)) (omega (arith, ints))

pub wrapped_difference-is_sum : (s : Bool) (B : ℕ) (x y : ℤ) → 1 ≤ B → wrapped_difference s B x y ≡ wrapped_sum s B x (wrapped_difference s B ((pos 0)) y)
wrapped_difference-is_sum s B x y h =
    by-congruence s B _ _ _ _ h (difference-in_range s B _ _ h) (sum-in_range s B _ _ h) (difference-congruent s B _ _ _ _ (Congruent-refl B x) (Congruent-refl B y)) (sum-congruent s B _ _ _ _ (Congruent-refl B x) (difference-congruent s B _ _ _ _ (Congruent-refl B (pos 0)) (Congruent-refl B y))) (omega (arith, ints))

pub difference-of_sum_left : (s : Bool) (B : ℕ) (x y : ℤ) → 1 ≤ B → InRange s B y → wrapped_difference s B (wrapped_sum s B x y) x ≡ y
difference-of_sum_left s B x y h f =
    by-congruence s B _ _ _ _ h (difference-in_range s B _ _ h) f (difference-congruent s B _ _ _ _ (sum-congruent s B _ _ _ _ (Congruent-refl B x) (Congruent-refl B y)) (Congruent-refl B x)) (Congruent-refl B y) (omega (arith, ints))

pub difference-twice : (s : Bool) (B : ℕ) (x y z : ℤ) → 1 ≤ B → wrapped_difference s B (wrapped_difference s B x y) z ≡ wrapped_difference s B x (wrapped_sum s B y z)
difference-twice s B x y z h =
    by-congruence s B _ _ _ _ h (difference-in_range s B _ _ h) (difference-in_range s B _ _ h) (difference-congruent s B _ _ _ _ (difference-congruent s B _ _ _ _ (Congruent-refl B x) (Congruent-refl B y)) (Congruent-refl B z)) (difference-congruent s B _ _ _ _ (Congruent-refl B x) (sum-congruent s B _ _ _ _ (Congruent-refl B y) (Congruent-refl B z))) (omega (arith, ints))

pub negated-twice : (s : Bool) (B : ℕ) (x : ℤ) → 1 ≤ B → InRange s B x → wrapped_difference s B ((pos 0)) (wrapped_difference s B ((pos 0)) x) ≡ x
negated-twice s B x h f =
    by-congruence s B _ _ _ _ h (difference-in_range s B _ _ h) f (difference-congruent s B _ _ _ _ (Congruent-refl B (pos 0)) (difference-congruent s B _ _ _ _ (Congruent-refl B (pos 0)) (Congruent-refl B x))) (Congruent-refl B x) (omega (arith, ints))

-- a negated number that wrapped is 0 less the number, and negated again the number
pub negated-is : (s : Bool) (B : ℕ) (x z : ℤ) → z ≡ wrap s B (neg_ℤ x) → z ≡ wrapped_difference s B (pos 0) x
negated-is s B x z e =
    let i : neg_ℤ x ≡ pos 0 -ℤ x = omega (arith, ints) in
    e ∙ ap (wrap s B) i ∙ sym (difference-is s B (pos 0) x)

pub negated-undone : (s : Bool) (B : ℕ) (x z : ℤ) → 1 ≤ B → InRange s B x → z ≡ wrap s B (neg_ℤ x) → wrapped_difference s B (pos 0) z ≡ x
negated-undone s B x z h f e = ap (wrapped_difference s B (pos 0)) (negated-is s B x z e) ∙ negated-twice s B x h f

pub wrapped_product-commutes : (s : Bool) (B : ℕ) (x y : ℤ) → 1 ≤ B → wrapped_product s B x y ≡ wrapped_product s B y x
wrapped_product-commutes s B x y h =
    by-congruence s B _ _ _ _ h (product-in_range s B _ _ h) (product-in_range s B _ _ h) (product-congruent s B _ _ _ _ (Congruent-refl B x) (Congruent-refl B y)) (product-congruent s B _ _ _ _ (Congruent-refl B y) (Congruent-refl B x)) (*ℤ_comm x y)

pub wrapped_product-associates : (s : Bool) (B : ℕ) (x y z : ℤ) → 1 ≤ B → wrapped_product s B (wrapped_product s B x y) z ≡ wrapped_product s B x (wrapped_product s B y z)
wrapped_product-associates s B x y z h =
    by-congruence s B _ _ _ _ h (product-in_range s B _ _ h) (product-in_range s B _ _ h) (product-congruent s B _ _ _ _ (product-congruent s B _ _ _ _ (Congruent-refl B x) (Congruent-refl B y)) (Congruent-refl B z)) (product-congruent s B _ _ _ _ (Congruent-refl B x) (product-congruent s B _ _ _ _ (Congruent-refl B y) (Congruent-refl B z))) (mul_assoc_z x y z)

pub wrapped_product-zero : (s : Bool) (B : ℕ) (x : ℤ) → 1 ≤ B → wrapped_product s B x ((pos 0)) ≡ pos 0
wrapped_product-zero s B x h =
    by-congruence s B _ _ _ _ h (product-in_range s B _ _ h) (zero-in_range s B h) (product-congruent s B _ _ _ _ (Congruent-refl B x) (Congruent-refl B (pos 0))) (Congruent-refl B (pos 0)) (omega (arith, ints))

pub products-of_sums : (s : Bool) (B : ℕ) (x y z : ℤ) → 1 ≤ B → wrapped_product s B (wrapped_sum s B x y) z ≡ wrapped_sum s B (wrapped_product s B x z) (wrapped_product s B y z)
products-of_sums s B x y z h =
    by-congruence s B _ _ _ _ h (product-in_range s B _ _ h) (sum-in_range s B _ _ h) (product-congruent s B _ _ _ _ (sum-congruent s B _ _ _ _ (Congruent-refl B x) (Congruent-refl B y)) (Congruent-refl B z)) (sum-congruent s B _ _ _ _ (product-congruent s B _ _ _ _ (Congruent-refl B x) (Congruent-refl B z)) (product-congruent s B _ _ _ _ (Congruent-refl B y) (Congruent-refl B z))) (add-mul_z x y z)

pub products-of_differences : (s : Bool) (B : ℕ) (x y z : ℤ) → 1 ≤ B → wrapped_product s B (wrapped_difference s B x y) z ≡ wrapped_difference s B (wrapped_product s B x z) (wrapped_product s B y z)
products-of_differences s B x y z h =
    by-congruence s B _ _ _ _ h (product-in_range s B _ _ h) (difference-in_range s B _ _ h) (product-congruent s B _ _ _ _ (difference-congruent s B _ _ _ _ (Congruent-refl B x) (Congruent-refl B y)) (Congruent-refl B z)) (difference-congruent s B _ _ _ _ (product-congruent s B _ _ _ _ (Congruent-refl B x) (Congruent-refl B z)) (product-congruent s B _ _ _ _ (Congruent-refl B y) (Congruent-refl B z))) (sub-mul_z x y z)

pub product-of_sum : (s : Bool) (B : ℕ) (x y z : ℤ) → 1 ≤ B
    → wrapped_product s B x (wrapped_sum s B y z) ≡ wrapped_sum s B (wrapped_product s B x y) (wrapped_product s B x z)
product-of_sum s B x y z h =
    wrapped_product-commutes s B x _ h ∙ products-of_sums s B y z x h
    ∙ ap₂ (wrapped_sum s B) (wrapped_product-commutes s B y x h) (wrapped_product-commutes s B z x h)

pub product-of_difference : (s : Bool) (B : ℕ) (x y z : ℤ) → 1 ≤ B
    → wrapped_product s B x (wrapped_difference s B y z) ≡ wrapped_difference s B (wrapped_product s B x y) (wrapped_product s B x z)
product-of_difference s B x y z h =
    wrapped_product-commutes s B x _ h ∙ products-of_differences s B y z x h
    ∙ ap₂ (wrapped_difference s B) (wrapped_product-commutes s B y x h) (wrapped_product-commutes s B z x h)
