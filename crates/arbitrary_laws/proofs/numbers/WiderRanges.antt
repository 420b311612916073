-- A type with at least as many bits and the same sign contains each number, also at widths that are not known.
-- Callers name the set `wider_ranges`.
use Rattle.std.specs.Prelude.{◌≡◌, ℕ, Bool, true, false, ◌≤◌, ◌-◌, ◌^◌, ◌≤ℤ◌}
use Rattle.std.proofs.Common.{arith, refl, subst}
use Rattle.std.proofs.lemmas.Int.{ints}
use Rattle.arbitrary_base.specs.Range.{hi, lo}
use Rattle.arbitrary_base.proofs.modular.Congruence.{pow_le}

least : (s : Bool) (A B : ℕ) → A ≤ B → lo s B ≤ℤ lo s A
least false A B h = omega (arith, ints)
least true A B h = let p = pow_le (A - 1) (B - 1) (omega arith) in omega (arith, ints)

greatest : (s : Bool) (A B : ℕ) → A ≤ B → hi s A ≤ℤ hi s B
greatest false A B h = let p = pow_le A B h in omega (arith, ints)
greatest true A B h = let p = pow_le (A - 1) (B - 1) (omega arith) in omega (arith, ints)

-- the first part says nothing: it shows the search the end
pub least-falls : (s : Bool) (A : ℕ) → (lo s A ≡ lo s A) × ((t : Bool) (B : ℕ) → s ≡ t → A ≤ B → lo t B ≤ℤ lo s A)
least-falls s A = (refl, λ t B e h. subst (λ (u : Bool). lo u B ≤ℤ lo s A) e (least s A B h))

pub greatest-rises : (s : Bool) (A : ℕ) → (hi s A ≡ hi s A) × ((t : Bool) (B : ℕ) → s ≡ t → A ≤ B → hi s A ≤ℤ hi t B)
greatest-rises s A = (refl, λ t B e h. subst (λ (u : Bool). hi s A ≤ℤ hi u B) e (greatest s A B h))

pub power-rises : (A : ℕ) → (2 ^ A ≡ 2 ^ A) × ((B : ℕ) → A ≤ B → 2 ^ A ≤ 2 ^ B)
power-rises A = (refl, λ B h. pow_le A B h)

pub ruleset wider_ranges = (least-falls, greatest-rises, power-rises)
