-- Serial numbers, which wrap: the difference that wraps, in both directions. Callers name the set
-- `serial_numbers`.
use Rattle.std.specs.Prelude.{◌≡◌, ℕ, ℤ, Bool, true, false, pos, ◌≤◌, ◌^◌, ◌<ℤ◌, ◌+ℤ◌, ◌-ℤ◌}
use Rattle.std.proofs.Common.{arith, ◌∙◌, subst, refl, sym}
use Rattle.std.proofs.lemmas.Bool.Decides.{Decides-int_eq}
use Rattle.std.proofs.lemmas.Int.{ints}
use Rattle.arbitrary_base.specs.Range.{InRange, lo}
use Rattle.arbitrary_base.specs.Residue.{Congruent}
use Rattle.arbitrary_base.specs.Operation.{wrapped_difference, wrapped_sum}
use Rattle.arbitrary_base.proofs.modular.Congruence.{Apart-from_congruent, Congruent-from_apart, Congruent-refl, Congruent-sub, Congruent-trans, pow_half}
use Rattle.arbitrary_base.proofs.modular.Residue.{congruent-same, wrap-congruent, wrap-unique}
use Rattle.arbitrary_base.proofs.operations.Definition.{difference-is}
use Rattle.arbitrary_base.proofs.operations.WrappedRing.{difference-in_range}
use Rattle.arbitrary_laws.proofs.sums.ExactSums.{difference-converted, difference-exact, difference-of_sum}

module _ (s : Bool) (B : ℕ) (x y : ℤ) (some : 1 ≤ B) where
  -- what one difference is less, the other is more
  other_way : Congruent B (pos 0 -ℤ wrapped_difference s B x y) (y -ℤ x)
  other_way =
      let d : Congruent B (wrapped_difference s B x y) (x -ℤ y) = subst (λ (z : ℤ). Congruent B z (x -ℤ y)) (sym (difference-is s B x y)) (wrap-congruent s B (x -ℤ y)) in
      let e : pos 0 -ℤ (x -ℤ y) ≡ y -ℤ x = omega (arith, ints) in
      subst (Congruent B (pos 0 -ℤ wrapped_difference s B x y)) e (Congruent-sub B (pos 0) (pos 0) (wrapped_difference s B x y) (x -ℤ y) (Congruent-refl B (pos 0)) d)

  turned : (z : ℤ) → InRange s B z → Congruent B z (pos 0 -ℤ wrapped_difference s B x y) → wrapped_difference s B y x ≡ z
  turned z f c = difference-is s B y x ∙ wrap-unique s B (y -ℤ x) z some f (Congruent-trans B z _ _ c other_way)

  pub turned-none : wrapped_difference s B x y ≡ pos 0 → wrapped_difference s B y x ≡ pos 0
  turned-none e =
      let f = difference-in_range s B x y some in
      turned (pos 0) (subst (InRange s B) e f) (subst (λ (z : ℤ). Congruent B (pos 0) (pos 0 -ℤ z)) (sym e) (Congruent-refl B (pos 0)))

module _ (B : ℕ) (x y : ℤ) (some : 1 ≤ B) where
  -- but at the least number, which is its own negation
  pub turned-with_sign : lo true B <ℤ wrapped_difference true B x y → wrapped_difference true B y x ≡ pos 0 -ℤ wrapped_difference true B x y
  turned-with_sign l =
      let f = difference-in_range true B x y some in
      let r = f.low in
      let h = f.high in
      turned true B x y some _ (record { low = omega (arith, ints); high = omega (arith, ints) }) (Congruent-refl B _)

  pub turned-of_least : wrapped_difference true B x y ≡ lo true B → wrapped_difference true B y x ≡ lo true B
  turned-of_least e =
      let f = difference-in_range true B x y some in
      let h = f.high in
      let p = pow_half B some in
      turned true B x y some (lo true B) (subst (InRange true B) e f) (Congruent-from_apart B _ _ (1, 0, omega (arith, ints)))

  -- without a sign both together go round once
  pub turned-without_sign : pos 0 <ℤ wrapped_difference false B x y → wrapped_difference false B y x ≡ pos (2 ^ B) -ℤ wrapped_difference false B x y
  turned-without_sign l =
      let f = difference-in_range false B x y some in
      let r = f.low in
      let h = f.high in
      turned false B x y some _ (record { low = omega (arith, ints); high = omega (arith, ints) }) (Congruent-from_apart B _ _ (0, 1, omega (arith, ints)))

none : (B : ℕ) (x y : ℤ) → Congruent B (pos 0) (x -ℤ y) → Congruent B x y
none B x y c =
    let a = Apart-from_congruent B (pos 0) (x -ℤ y) c in
    let e = a.2 in
    Congruent-from_apart B x y (a.1, a.0, omega (arith, ints))

-- numbers with no step between them are the same; the first part says nothing, it shows the search the difference
pub none-apart : (s : Bool) (B : ℕ) (x y : ℤ) → 1 ≤ B → InRange s B x → InRange s B y
    → (wrapped_difference s B x y ≡ wrapped_difference s B x y) × (wrapped_difference s B x y ≡ pos 0 → x ≡ y)
none-apart s B x y h f g = (
  refl,
  λ e.
      congruent-same s B x y h f g (none B x y (subst (λ (z : ℤ). Congruent B z (x -ℤ y)) (sym (difference-is s B x y) ∙ e) (wrap-congruent s B (x -ℤ y)))),
)

-- a step that was added, by the difference to where it began
module _ (s t : Bool) (A B : ℕ) (x y : ℤ) (some : 1 ≤ B) (wide : B ≤ A) where
  pub step-back : InRange s B y → wrapped_difference s B (wrapped_sum t A x y) x ≡ y
  step-back f =
      let e : x +ℤ y -ℤ x ≡ y = omega (arith, ints) in
      difference-of_sum s B x y some t A wide x ∙ difference-exact s B (x +ℤ y) x some (subst (InRange s B) (sym e) f) ∙ e

pub ruleset serial_numbers = (Decides-int_eq, difference-converted, turned-none, turned-with_sign, turned-of_least, turned-without_sign, step-back, none-apart)
