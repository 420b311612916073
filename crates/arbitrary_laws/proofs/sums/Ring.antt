-- Sums, differences and products that wrap, and how one undoes another. `arbitrary_base` has the laws of a ring.
use Rattle.std.specs.Prelude.{Bool, pos, ℕ, ℤ, ◌-ℤ◌, ◌≡◌, ◌≤◌}
use Rattle.std.proofs.Common.{ap, arith, ◌∙◌}
use Rattle.std.proofs.Math.IntN.{*ℤ_comm}
use Rattle.std.proofs.lemmas.Int.{ints}
use Rattle.arbitrary_base.specs.Operation.{wrapped_difference, wrapped_product, wrapped_sum}
use Rattle.arbitrary_base.specs.Range.{InRange}
use Rattle.arbitrary_base.proofs.integers.Ring.{add-mul_z, sub-mul_z}
use Rattle.arbitrary_base.proofs.modular.Congruence.{Congruent-refl}
use Rattle.arbitrary_base.proofs.operations.WrappedRing.{by-congruence, difference-congruent, difference-in_range, negated-twice, product-congruent, product-in_range, products-of_differences, sum-congruent, sum-in_range, wrapped_product-commutes, wrapped_product-zero}

-- ---- in range, and congruent to the exact result

pub wrapped_difference-zero : (s : Bool) (B : ℕ) (x : ℤ) → 1 ≤ B → InRange s B x → wrapped_difference s B x ((pos 0)) ≡ x
wrapped_difference-zero s B x h f =
    by-congruence s B _ _ _ _ h (difference-in_range s B _ _ h) f (difference-congruent s B _ _ _ _ (Congruent-refl B x) (Congruent-refl B (pos 0))) (Congruent-refl B x) (omega (arith, ints))

pub difference-of_sum : (s : Bool) (B : ℕ) (x y : ℤ) → 1 ≤ B → InRange s B x → wrapped_difference s B (wrapped_sum s B x y) y ≡ x
difference-of_sum s B x y h f =
    by-congruence s B _ _ _ _ h (difference-in_range s B _ _ h) f (difference-congruent s B _ _ _ _ (sum-congruent s B _ _ _ _ (Congruent-refl B x) (Congruent-refl B y)) (Congruent-refl B y)) (Congruent-refl B x) (omega (arith, ints))

pub sum-of_difference : (s : Bool) (B : ℕ) (x y : ℤ) → 1 ≤ B → InRange s B x → wrapped_sum s B (wrapped_difference s B x y) y ≡ x
sum-of_difference s B x y h f =
    by-congruence s B _ _ _ _ h (sum-in_range s B _ _ h) f (sum-congruent s B _ _ _ _ (difference-congruent s B _ _ _ _ (Congruent-refl B x) (Congruent-refl B y)) (Congruent-refl B y)) (Congruent-refl B x) (omega (arith, ints))

pub sum-to_difference : (s : Bool) (B : ℕ) (x y : ℤ) → 1 ≤ B → InRange s B y → wrapped_sum s B x (wrapped_difference s B y x) ≡ y
sum-to_difference s B x y h f =
    by-congruence s B _ _ _ _ h (sum-in_range s B _ _ h) f (sum-congruent s B _ _ _ _ (Congruent-refl B x) (difference-congruent s B _ _ _ _ (Congruent-refl B y) (Congruent-refl B x))) (Congruent-refl B y) (omega (arith, ints))

pub difference-to_difference : (s : Bool) (B : ℕ) (x y : ℤ) → 1 ≤ B → InRange s B y → wrapped_difference s B x (wrapped_difference s B x y) ≡ y
difference-to_difference s B x y h f =
    by-congruence s B _ _ _ _ h (difference-in_range s B _ _ h) f (difference-congruent s B _ _ _ _ (Congruent-refl B x) (difference-congruent s B _ _ _ _ (Congruent-refl B x) (Congruent-refl B y))) (Congruent-refl B y) (omega (arith, ints))

pub difference-turned : (s : Bool) (B : ℕ) (x y : ℤ) → 1 ≤ B → wrapped_difference s B ((pos 0)) (wrapped_difference s B x y) ≡ wrapped_difference s B y x
difference-turned s B x y h =
    by-congruence s B _ _ _ _ h (difference-in_range s B _ _ h) (difference-in_range s B _ _ h) (difference-congruent s B _ _ _ _ (Congruent-refl B (pos 0)) (difference-congruent s B _ _ _ _ (Congruent-refl B x) (Congruent-refl B y))) (difference-congruent s B _ _ _ _ (Congruent-refl B y) (Congruent-refl B x)) (omega (arith, ints))

pub negated-sum : (s : Bool) (B : ℕ) (x y : ℤ) → 1 ≤ B → wrapped_difference s B ((pos 0)) (wrapped_sum s B x y) ≡ wrapped_sum s B (wrapped_difference s B ((pos 0)) x) (wrapped_difference s B ((pos 0)) y)
negated-sum s B x y h =
    by-congruence s B _ _ _ _ h (difference-in_range s B _ _ h) (sum-in_range s B _ _ h) (difference-congruent s B _ _ _ _ (Congruent-refl B (pos 0)) (sum-congruent s B _ _ _ _ (Congruent-refl B x) (Congruent-refl B y))) (sum-congruent s B _ _ _ _ (difference-congruent s B _ _ _ _ (Congruent-refl B (pos 0)) (Congruent-refl B x)) (difference-congruent s B _ _ _ _ (Congruent-refl B (pos 0)) (Congruent-refl B y))) (omega (arith, ints))

pub wrapped_product-one : (s : Bool) (B : ℕ) (x : ℤ) → 1 ≤ B → InRange s B x → wrapped_product s B x ((pos 1)) ≡ x
wrapped_product-one s B x h f =
    by-congruence s B _ _ _ _ h (product-in_range s B _ _ h) f (product-congruent s B _ _ _ _ (Congruent-refl B x) (Congruent-refl B (pos 1))) (Congruent-refl B x) (omega (arith, ints))

pub wrapped_product-two : (s : Bool) (B : ℕ) (x : ℤ) → 1 ≤ B → wrapped_product s B x ((pos 2)) ≡ wrapped_sum s B x x
wrapped_product-two s B x h =
    by-congruence s B _ _ _ _ h (product-in_range s B _ _ h) (sum-in_range s B _ _ h) (product-congruent s B _ _ _ _ (Congruent-refl B x) (Congruent-refl B (pos 2))) (sum-congruent s B _ _ _ _ (Congruent-refl B x) (Congruent-refl B x)) (omega (arith, ints))

pub product-of_negated : (s : Bool) (B : ℕ) (x y : ℤ) → 1 ≤ B
    → wrapped_product s B (wrapped_difference s B (pos 0) x) y ≡ wrapped_difference s B (pos 0) (wrapped_product s B x y)
product-of_negated s B x y h =
    products-of_differences s B (pos 0) x y h
    ∙ ap (λ (z : ℤ). wrapped_difference s B z (wrapped_product s B x y)) (wrapped_product-commutes s B (pos 0) y h ∙ wrapped_product-zero s B y h)

pub product-of_negated_both : (s : Bool) (B : ℕ) (x y : ℤ) → 1 ≤ B
    → wrapped_product s B (wrapped_difference s B (pos 0) x) (wrapped_difference s B (pos 0) y) ≡ wrapped_product s B x y
product-of_negated_both s B x y h =
    product-of_negated s B x _ h
    ∙ ap (wrapped_difference s B (pos 0)) (wrapped_product-commutes s B x _ h ∙ product-of_negated s B y x h)
    ∙ negated-twice s B _ h (product-in_range s B y x h) ∙ wrapped_product-commutes s B y x h

-- ---- a number taken to the other side

pub sum-of_difference_right : (s : Bool) (B : ℕ) (x y z : ℤ) → 1 ≤ B
    → wrapped_sum s B x (wrapped_difference s B y z) ≡ wrapped_difference s B (wrapped_sum s B x y) z
sum-of_difference_right s B x y z h =
    by-congruence s B _ _ _ _ h (sum-in_range s B _ _ h) (difference-in_range s B _ _ h)
    (sum-congruent s B _ _ _ _ (Congruent-refl B x) (difference-congruent s B _ _ _ _ (Congruent-refl B y) (Congruent-refl B z)))
    (difference-congruent s B _ _ _ _ (sum-congruent s B _ _ _ _ (Congruent-refl B x) (Congruent-refl B y)) (Congruent-refl B z)) (omega (arith, ints))

pub difference-of_difference_right : (s : Bool) (B : ℕ) (x y z : ℤ) → 1 ≤ B
    → wrapped_difference s B x (wrapped_difference s B y z) ≡ wrapped_sum s B (wrapped_difference s B x y) z
difference-of_difference_right s B x y z h =
    by-congruence s B _ _ _ _ h (difference-in_range s B _ _ h) (sum-in_range s B _ _ h)
    (difference-congruent s B _ _ _ _ (Congruent-refl B x) (difference-congruent s B _ _ _ _ (Congruent-refl B y) (Congruent-refl B z)))
    (sum-congruent s B _ _ _ _ (difference-congruent s B _ _ _ _ (Congruent-refl B x) (Congruent-refl B y)) (Congruent-refl B z)) (omega (arith, ints))

pub difference-of_sums : (s : Bool) (B : ℕ) (x y z : ℤ) → 1 ≤ B
    → wrapped_difference s B (wrapped_sum s B x z) (wrapped_sum s B y z) ≡ wrapped_difference s B x y
difference-of_sums s B x y z h =
    by-congruence s B _ _ _ _ h (difference-in_range s B _ _ h) (difference-in_range s B _ _ h)
    (difference-congruent s B _ _ _ _ (sum-congruent s B _ _ _ _ (Congruent-refl B x) (Congruent-refl B z)) (sum-congruent s B _ _ _ _ (Congruent-refl B y) (Congruent-refl B z)))
    (difference-congruent s B _ _ _ _ (Congruent-refl B x) (Congruent-refl B y)) (omega (arith, ints))

pub difference-of_squares : (s : Bool) (B : ℕ) (x y : ℤ) → 1 ≤ B
    → wrapped_product s B (wrapped_sum s B x y) (wrapped_difference s B x y) ≡ wrapped_difference s B (wrapped_product s B x x) (wrapped_product s B y y)
difference-of_squares s B x y h =
    let a = add-mul_z x y (x -ℤ y) in
    let b = sub-mul_z x y x in
    let c = sub-mul_z x y y in
    let d = *ℤ_comm x (x -ℤ y) in
    let e = *ℤ_comm y (x -ℤ y) in
    let f = *ℤ_comm x y in
    by-congruence s B _ _ _ _ h (product-in_range s B _ _ h) (difference-in_range s B _ _ h)
    (product-congruent s B _ _ _ _ (sum-congruent s B _ _ _ _ (Congruent-refl B x) (Congruent-refl B y)) (difference-congruent s B _ _ _ _ (Congruent-refl B x) (Congruent-refl B y)))
    (difference-congruent s B _ _ _ _ (product-congruent s B _ _ _ _ (Congruent-refl B x) (Congruent-refl B x)) (product-congruent s B _ _ _ _ (Congruent-refl B y) (Congruent-refl B y)))
    (omega (arith, ints))
