-- Why the checked sums and differences are right.
use Rattle.std.specs.Prelude.{◌≡◌, ◌↔◌, ◌⊎◌, ℕ, ℤ, Bool, true, false, not, pos, neg_ℤ, ◌+ℤ◌, ◌-ℤ◌, ◌≤ℤ◌, ◌<ℤ◌, ◌-◌, ◌^◌, ◌≤◌, int_lt, IsTrue}
use Rattle.std.proofs.Common.{arith, refl, sym, subst, ◌∙◌, inl, inr, ⊎_elim}
use Rattle.std.specs.Ordering.{int_eq}
use Rattle.std.proofs.lemmas.Bool.Decides.{Decides-int_eq}
use mathlib.Core.Bool.{beq}
use Rattle.std.proofs.lemmas.Int.{ints, by_lt_z}
use Rattle.std.proofs.lemmas.Nat.{pow_pos}
use Rattle.arbitrary_base.specs.Range.{lo, hi, InRange}
use Rattle.arbitrary_base.specs.Residue.{wrap}
use Rattle.arbitrary_base.proofs.modular.Congruence.{span, pow_half, Congruent-from_apart, Congruent-narrower}
use Rattle.arbitrary_base.proofs.modular.Residue.{wrap-unique, wrap-same, wrap-in_range, wrap-congruent, wrap-of_in_range}

-- to wrap at more bits first changes nothing
pub wrap-wrap : (s : Bool) (A B : ℕ) (x : ℤ) → 1 ≤ A → A ≤ B → wrap s A (wrap s B x) ≡ wrap s A x
wrap-wrap s A B x h g = wrap-same s A (wrap s B x) x (Congruent-narrower A B _ x g (wrap-congruent s B x))

-- a type has zero
pub zero-in_range : (s : Bool) (B : ℕ) → 1 ≤ B → InRange s B (pos 0)
zero-in_range false B h = let p = pow_pos B in record { low = omega (arith, ints); high = omega (arith, ints) }
zero-in_range true B h = let p = pow_pos (B - 1) in record { low = omega (arith, ints); high = omega (arith, ints) }

pub wrap-zero : (s : Bool) (B : ℕ) → 1 ≤ B → wrap s B (pos 0) ≡ pos 0
wrap-zero s B h = wrap-of_in_range s B (pos 0) h (zero-in_range s B h)

-- what wraps to itself is in range
pub in_range-of_wrap : (s : Bool) (B : ℕ) (x : ℤ) → 1 ≤ B → wrap s B x ≡ x → InRange s B x
in_range-of_wrap s B x h e = subst (λ (z : ℤ). InRange s B z) e (wrap-in_range s B x h)

-- the least number is not below -2 ^ B
lo-above : (s : Bool) (B : ℕ) → 1 ≤ B → neg_ℤ (pos (2 ^ B)) ≤ℤ lo s B
lo-above false B h = omega (arith, ints)
lo-above true B h = let p = pow_half B h in omega (arith, ints)

hi-below : (s : Bool) (B : ℕ) → 1 ≤ B → hi s B <ℤ pos (2 ^ B)
hi-below false B h = omega (arith, ints)
hi-below true B h = let p = pow_half B h in let q = pow_pos (B - 1) in omega (arith, ints)

lo-low : (s : Bool) (B : ℕ) → 1 ≤ B → lo s B ≤ℤ pos 0
lo-low s B h = (zero-in_range s B h).low

-- a number up to 2 ^ B too great
pub wrap-above : (s : Bool) (B : ℕ) (x : ℤ) → 1 ≤ B → hi s B <ℤ x → x ≤ℤ (hi s B +ℤ pos (2 ^ B)) → wrap s B x ≡ x -ℤ pos (2 ^ B)
wrap-above s B x h f g =
    let e = span s B h in
    wrap-unique s B x (x -ℤ pos (2 ^ B)) h (record { low = omega (arith, ints); high = omega (arith, ints) })
    (Congruent-from_apart B _ _ (1, 0, omega (arith, ints)))

pub wrap-below : (s : Bool) (B : ℕ) (x : ℤ) → 1 ≤ B → x <ℤ lo s B → lo s B ≤ℤ (x +ℤ pos (2 ^ B)) → wrap s B x ≡ x +ℤ pos (2 ^ B)
wrap-below s B x h f g =
    let e = span s B h in
    wrap-unique s B x (x +ℤ pos (2 ^ B)) h (record { low = omega (arith, ints); high = omega (arith, ints) })
    (Congruent-from_apart B _ _ (0, 1, omega (arith, ints)))

-- a number is in range, or to one side of it
pub three_ways : (s : Bool) (B : ℕ) (x : ℤ) → (InRange s B x) ⊎ ((x <ℤ lo s B) ⊎ (hi s B <ℤ x))
three_ways s B x =
    by_lt_z x (lo s B) (λ a. inr (inl a))
    (λ b. by_lt_z (hi s B) x (λ c. inr (inr c)) (λ d. inl (record { low = b; high = d })))

-- the sum is in range exactly where the wrapped one went the right way
pub add-checks : (s : Bool) (B : ℕ) (x y w : ℤ) → 1 ≤ B → InRange s B x → InRange s B y → w ≡ wrap s B (x +ℤ y)
    → ((w <ℤ x) ↔ (y <ℤ pos 0)) → InRange s B (x +ℤ y) × (w ≡ x +ℤ y)
add-checks s B x y w h f g e t = ⊎_elim
    (λ i. (i, e ∙ wrap-of_in_range s B (x +ℤ y) h i))
    (⊎_elim
    (λ b. let m = lo-above s B h in let n = lo-low s B h in
    let q : w ≡ x +ℤ y +ℤ pos (2 ^ B) = e ∙ wrap-below s B (x +ℤ y) h b (omega (arith, ints)) in
    let less : w <ℤ x = t.1 (omega (arith, ints)) in
    absurd (omega (arith, ints)))
    (λ a. let m = hi-below s B h in
    let q : w ≡ x +ℤ y -ℤ pos (2 ^ B) = e ∙ wrap-above s B (x +ℤ y) h a (omega (arith, ints)) in
    let less : y <ℤ pos 0 = t.0 (omega (arith, ints)) in
    absurd (omega (arith, ints))))
    (three_ways s B (x +ℤ y))

pub sub-checks : (s : Bool) (B : ℕ) (x y w : ℤ) → 1 ≤ B → InRange s B x → InRange s B y → w ≡ wrap s B (x -ℤ y)
    → ((x <ℤ w) ↔ (y <ℤ pos 0)) → InRange s B (x -ℤ y) × (w ≡ x -ℤ y)
sub-checks s B x y w h f g e t = ⊎_elim
    (λ i. (i, e ∙ wrap-of_in_range s B (x -ℤ y) h i))
    (⊎_elim
    (λ b. let m = hi-below s B h in let n = lo-low s B h in
    let q : w ≡ x -ℤ y +ℤ pos (2 ^ B) = e ∙ wrap-below s B (x -ℤ y) h b (omega (arith, ints)) in
    let less : y <ℤ pos 0 = t.0 (omega (arith, ints)) in
    absurd (omega (arith, ints)))
    (λ a. let m = lo-above s B h in
    let q : w ≡ x -ℤ y -ℤ pos (2 ^ B) = e ∙ wrap-above s B (x -ℤ y) h a (omega (arith, ints)) in
    let less : x <ℤ w = t.1 (omega (arith, ints)) in
    absurd (omega (arith, ints))))
    (three_ways s B (x -ℤ y))

-- tests that hold in the same cases do not differ
same_tests : (b z : Bool) → beq b z ≡ false → (b ≡ true → z ≡ true) → (z ≡ true → b ≡ true) → ⊥
same_tests true true t m n = cc
same_tests true false t m n = let k = m refl in cc
same_tests false true t m n = let k = n refl in cc
same_tests false false t m n = cc

-- and tests that do not differ hold in the same cases
pub same_cases : (w x y : ℤ) (b z : Bool) → b ≡ int_lt w x → z ≡ int_lt y (pos 0) → beq b z ≡ true → (w <ℤ x) ↔ (y <ℤ pos 0)
same_cases w x y true true p q t = ((λ a. grind (arith, ints)), (λ a. grind (arith, ints)))
same_cases w x y true false p q t = cc
same_cases w x y false true p q t = cc
same_cases w x y false false p q t = ((λ a. absurd (grind (arith, ints))), (λ a. absurd (grind (arith, ints))))

-- where the tests differ, the sum is out of range
pub add-refuses_test : (s : Bool) (B : ℕ) (x y w : ℤ) (b z : Bool) → 1 ≤ B → w ≡ wrap s B (x +ℤ y)
    → b ≡ int_lt w x → z ≡ int_lt y (pos 0) → beq b z ≡ false → InRange s B (x +ℤ y) → ⊥
add-refuses_test s B x y w b z h e p q t i =
    let r : w ≡ x +ℤ y = e ∙ wrap-of_in_range s B (x +ℤ y) h i in
    same_tests b z t (λ m. grind (arith, ints)) (λ m. grind (arith, ints))

pub sub-refuses_test : (s : Bool) (B : ℕ) (x y w : ℤ) (b z : Bool) → 1 ≤ B → w ≡ wrap s B (x -ℤ y)
    → b ≡ int_lt x w → z ≡ int_lt y (pos 0) → beq b z ≡ false → InRange s B (x -ℤ y) → ⊥
sub-refuses_test s B x y w b z h e p q t i =
    let r : w ≡ x -ℤ y = e ∙ wrap-of_in_range s B (x -ℤ y) h i in
    same_tests b z t (λ m. grind (arith, ints)) (λ m. grind (arith, ints))

pub range_test : (s : Bool) (B : ℕ) (x w : ℤ) (b : Bool) → 1 ≤ B → w ≡ wrap s B x → b ≡ int_eq w x → IsTrue b ↔ InRange s B x
range_test s B x w b h e p =
    let d = Decides-int_eq w x in (
      (λ t. in_range-of_wrap s B x h (sym e ∙ d.0 (subst (λ (c : Bool). IsTrue c) p t))),
      (λ i. subst (λ (c : Bool). IsTrue c) (sym p) (d.1 (e ∙ wrap-of_in_range s B x h i))),
    )

-- in range, by both ends, of which the lower one is tested first
pub below_test : (s : Bool) (B : ℕ) (x l : ℤ) (a : Bool) → l ≡ lo s B → a ≡ int_lt x l → a ≡ true → IsTrue (not a) ↔ InRange s B x
below_test s B x l true e p t = ((λ u. cc), (λ i. let k = i.low in absurd (grind (arith, ints))))
below_test s B x l false e p t = cc

pub above_test : (s : Bool) (B : ℕ) (x l h : ℤ) (a b : Bool) → l ≡ lo s B → h ≡ hi s B → a ≡ int_lt x l → a ≡ false → b ≡ int_lt h x → IsTrue (not b) ↔ InRange s B x
above_test s B x l h a true e f p t q = ((λ u. cc), (λ i. let k = i.high in absurd (grind (arith, ints))))
above_test s B x l h a false e f p t q = ((λ u. record { low = grind (arith, ints); high = grind (arith, ints) }), (λ i. refl))

pub ruleset zeros = (wrap-zero)

pub ruleset fitting = (wrap-of_in_range)

-- a difference from zero, and that zero has its place in each range
pub sub-from_zero : (x y : ℤ) → y ≡ pos 0 → y -ℤ x ≡ neg_ℤ x
sub-from_zero x y e = omega (arith, ints)

pub zero-InRange : (s : Bool) (B : ℕ) (y : ℤ) → 1 ≤ B → y ≡ pos 0 → InRange s B y
zero-InRange s B y h e = subst (λ (z : ℤ). InRange s B z) (sym e) (zero-in_range s B h)
