-- The laws that specs/Laws states, under the names that `laws` cites. Laws without another proof have it here.
use Rattle.std.specs.Prelude.{◌≡◌, ◌≢◌, ◌↔◌, ℕ, zero, suc, ℤ, Bool, true, false, not, pos, Option, Some, None, int_div, IsTrue, if◌then◌else◌, ◌||◌, ◌+ℤ◌, ◌-ℤ◌, ◌*ℤ◌, ◌≤◌, List, [], ◌∷◌, SomeIff}
use Rattle.std.specs.Ordering.{int_eq}
use Rattle.std.specs.List.{fold, last_or, scan}
use Rattle.std.proofs.Common.{arith, refl, ap, sym, ◌∙◌}
use Rattle.std.proofs.lemmas.Int.{ints}
use Rattle.std.proofs.Math.IntN.{*ℤ_comm}
use Rattle.arbitrary_base.specs.Range.{InRange, in_range, lo}
use Rattle.arbitrary_base.specs.Residue.{Congruent, wrap}
use Rattle.arbitrary_base.proofs.integers.Ring.{add-mul_z, mul_assoc_z}
use Rattle.arbitrary_base.proofs.modular.Congruence.{Congruent-refl, Congruent-add, Congruent-mul}
use Rattle.arbitrary_base.proofs.modular.Residue.{residue-lt, wrap-of_in_range, wrap-in_range, wrap-congruent, wrap-unique, wrap-same}

pub wrap-within : (s : Bool) (B : ℕ) (x : ℤ) → InRange s B (wrap s B x)
unfolding wrap
wrap-within false zero x = let r = residue-lt 0 (x -ℤ lo false 0) in record { low = omega (arith, ints); high = omega (arith, ints) }
wrap-within true zero x = let r = residue-lt 0 (x -ℤ lo true 0) in record { low = omega (arith, ints); high = omega (arith, ints) }
wrap-within s (suc k) x = wrap-in_range s (suc k) x (omega arith)

pub is-wrap : (s : Bool) (B : ℕ) (x y : ℤ) → 1 ≤ B → InRange s B y → Congruent B y x → y ≡ wrap s B x
is-wrap s B x y h f c = sym (wrap-unique s B x y h f c)

-- what is added, or multiplied by, may wrap first
sum-left : (s : Bool) (B : ℕ) (x y : ℤ) → wrap s B (wrap s B x +ℤ y) ≡ wrap s B (x +ℤ y)
sum-left s B x y = wrap-same s B _ _ (Congruent-add B _ x y y (wrap-congruent s B x) (Congruent-refl B y))

sum-right : (s : Bool) (B : ℕ) (x y : ℤ) → wrap s B (x +ℤ wrap s B y) ≡ wrap s B (x +ℤ y)
sum-right s B x y = wrap-same s B _ _ (Congruent-add B x x _ y (Congruent-refl B x) (wrap-congruent s B y))

product-left : (s : Bool) (B : ℕ) (x y : ℤ) → wrap s B (wrap s B x *ℤ y) ≡ wrap s B (x *ℤ y)
product-left s B x y = wrap-same s B _ _ (Congruent-mul B _ x y y (wrap-congruent s B x) (Congruent-refl B y))

product-right : (s : Bool) (B : ℕ) (x y : ℤ) → wrap s B (x *ℤ wrap s B y) ≡ wrap s B (x *ℤ y)
product-right s B x y = wrap-same s B _ _ (Congruent-mul B x x _ y (Congruent-refl B x) (wrap-congruent s B y))

pub sums-commute : (s : Bool) (B : ℕ) (x y : ℤ) → wrap s B (x +ℤ y) ≡ wrap s B (y +ℤ x)
sums-commute s B x y = ap (wrap s B) (omega (arith, ints))

pub sums-associate : (s : Bool) (B : ℕ) (x y z : ℤ) → wrap s B (wrap s B (x +ℤ y) +ℤ z) ≡ wrap s B (x +ℤ wrap s B (y +ℤ z))
sums-associate s B x y z = sum-left s B (x +ℤ y) z ∙ ap (wrap s B) (omega (arith, ints)) ∙ sym (sum-right s B x (y +ℤ z))

pub products-commute : (s : Bool) (B : ℕ) (x y : ℤ) → wrap s B (x *ℤ y) ≡ wrap s B (y *ℤ x)
products-commute s B x y = ap (wrap s B) (*ℤ_comm x y)

pub products-associate : (s : Bool) (B : ℕ) (x y z : ℤ) → wrap s B (wrap s B (x *ℤ y) *ℤ z) ≡ wrap s B (x *ℤ wrap s B (y *ℤ z))
products-associate s B x y z = product-left s B (x *ℤ y) z ∙ ap (wrap s B) (mul_assoc_z x y z) ∙ sym (product-right s B x (y *ℤ z))

pub products-distribute : (s : Bool) (B : ℕ) (x y z : ℤ) → wrap s B (x *ℤ wrap s B (y +ℤ z)) ≡ wrap s B (wrap s B (x *ℤ y) +ℤ wrap s B (x *ℤ z))
products-distribute s B x y z =
    let e : x *ℤ (y +ℤ z) ≡ x *ℤ y +ℤ x *ℤ z = *ℤ_comm x (y +ℤ z) ∙ add-mul_z y z x ∙ (λ i. *ℤ_comm y x i +ℤ *ℤ_comm z x i) in
    product-right s B x (y +ℤ z) ∙ ap (wrap s B) e
    ∙ sym (sum-left s B (x *ℤ y) (wrap s B (x *ℤ z)) ∙ sum-right s B (x *ℤ y) (x *ℤ z))

pub checked-by_overflow : (s : Bool) (B : ℕ) (x : ℤ) (checked : Option ℤ) (wrapped : ℤ) (overflow : Bool) → 1 ≤ B
    → SomeIff checked (InRange s B x) x → wrapped ≡ wrap s B x → (IsTrue overflow ↔ ¬ (InRange s B x))
    → checked ≡ (if overflow then None else Some wrapped)
checked-by_overflow s B x None w true h e q f = refl
checked-by_overflow s B x None w false h e q f = let t = f.1 e in cc
checked-by_overflow s B x (Some y) w true h e q f = absurd (f.0 refl e.0)
checked-by_overflow s B x (Some y) w false h e q f = ap Some (e.1 ∙ sym (wrap-of_in_range s B x h e.0) ∙ sym q)

pub checked-quotient_by_overflow : (s : Bool) (B : ℕ) (x y : ℤ) (checked : Option ℤ) (wrapped : ℤ) (overflow : Bool) → 1 ≤ B
    → SomeIff checked ((y ≢ pos 0) × InRange s B (int_div x y)) (int_div x y)
    → (y ≢ pos 0 → (wrapped ≡ wrap s B (int_div x y)) × (IsTrue overflow ↔ ¬ (InRange s B (int_div x y))))
    → checked ≡ (if int_eq y (pos 0) || overflow then None else Some wrapped)
checked-quotient_by_overflow s B x y checked w overflow h e f = by_divisor (int_eq y (pos 0)) refl checked e
  where
    zero-is : int_eq y (pos 0) ≡ true → y ≡ pos 0
    zero-is p = grind (arith, ints)

    other-is : int_eq y (pos 0) ≡ false → y ≢ pos 0
    other-is p z = let t : int_eq y (pos 0) ≡ true = rw z refl in cc

    by_divisor : (t : Bool) → int_eq y (pos 0) ≡ t → (checked : Option ℤ) → SomeIff checked ((y ≢ pos 0) × InRange s B (int_div x y)) (int_div x y)
        → checked ≡ (if int_eq y (pos 0) || overflow then None else Some w)
    by_divisor true p None e = rw p refl
    by_divisor true p (Some q) e = absurd (e.0.0 (zero-is p))
    by_divisor false p None e = let n = other-is p in rw p (checked-by_overflow s B (int_div x y) None w overflow h (λ i. e (n, i)) (f n).0 (f n).1)
    by_divisor false p (Some q) e = let n = other-is p in rw p (checked-by_overflow s B (int_div x y) (Some q) w overflow h (e.0.1, e.1) (f n).0 (f n).1)

pub in_range-decides : (s : Bool) (B : ℕ) (x : ℤ) → IsTrue (in_range s B x) ↔ InRange s B x
unfolding in_range
in_range-decides s B x = ((λ t. record { low = grind (arith, ints); high = grind (arith, ints) }), (λ f. let l = f.low in let h = f.high in grind (arith, ints)))

-- the flag of a number out of range is the negated test
pub out-of_range_tested : (b s : Bool) (B : ℕ) (x : ℤ) → IsTrue b ↔ ¬ (InRange s B x) → b ≡ not (in_range s B x)
out-of_range_tested b s B x t = let f = in_range-decides s B x in grind (arith, t, f)

pub last-partials : (op : ℤ → ℤ → ℤ) (o : Option ℤ) (first : ℤ) (l : List ℤ) → last_or o (first ∷ scan op op first l) ≡ Some (fold op first l)
last-partials op o first [] = refl
last-partials op o first (x ∷ l) = last-partials op (Some first) (op first x) l
