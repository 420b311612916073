-- The laws of powers with small exponents, of quotients of equal numbers, and of extension to 128 bits.
use Rattle.std.specs.Int.{int_pow}
use Rattle.std.specs.Prelude.{Bool, false, int_div, neg_ℤ, negsuc, pos, suc, true, zero, ℕ, ℤ, ◌-◌, ◌/◌, ◌≡◌, ◌≢◌, ◌≤◌}
use Rattle.std.proofs.Common.{ap, arith, refl, subst, ◌∙◌}
use Rattle.std.proofs.Math.Nat.{div_self}
use Rattle.std.proofs.lemmas.Int.{ints}
use Rattle.std.proofs.lemmas.Nat.{pow_pos}
use Rattle.arbitrary_base.specs.Range.{InRange, lo}
use Rattle.arbitrary_base.specs.Residue.{Congruent, residue, wrap}
use Rattle.arbitrary_base.specs.Saturating.{clamp}
use Rattle.arbitrary_base.proofs.integers.Powers.{one-mul_z, power-one, power-suc}
use Rattle.arbitrary_base.proofs.modular.Congruence.{Congruent-by_times, Congruent-narrower, pow_half}
use Rattle.arbitrary_base.proofs.modular.Residue.{residue-congruent, wrap-of_in_range, wrap-same}
use Rattle.arbitrary_base.proofs.storages.Clamp.{clamp-fits}

pub power-of_one : (n : ℕ) → int_pow (pos 1) n ≡ pos 1
power-of_one zero = refl
power-of_one (suc n) = power-suc (pos 1) n ∙ one-mul_z (int_pow (pos 1) n) ∙ power-of_one n

pub power-of_zero : (n : ℕ) → 1 ≤ n → int_pow (pos 0) n ≡ pos 0
power-of_zero zero h = absurd (omega arith)
power-of_zero (suc n) h = power-suc (pos 0) n ∙ omega (arith, ints)

-- the same for a power that saturates
pub clamped-first : (s : Bool) (B n : ℕ) (x z : ℤ) → InRange s B x → z ≡ clamp s B (int_pow x n) → n ≡ 1 → z ≡ x
clamped-first s B n x z f e d = e ∙ ap (clamp s B) (ap (int_pow x) d ∙ power-one x) ∙ clamp-fits s B x f

pub clamped-of_one : (s : Bool) (B n : ℕ) (x z : ℤ) → InRange s B x → z ≡ clamp s B (int_pow x n) → x ≡ pos 1 → z ≡ pos 1
clamped-of_one s B n x z f e d =
    e ∙ ap (λ (y : ℤ). clamp s B (int_pow y n)) d ∙ ap (clamp s B) (power-of_one n) ∙ clamp-fits s B (pos 1) (subst (InRange s B) d f)

pub clamped-of_zero : (s : Bool) (B n : ℕ) (x z : ℤ) → InRange s B x → z ≡ clamp s B (int_pow x n) → x ≡ pos 0 → 1 ≤ n → z ≡ pos 0
clamped-of_zero s B n x z f e d l =
    e ∙ ap (λ (y : ℤ). clamp s B (int_pow y n)) d ∙ ap (clamp s B) (power-of_zero n l) ∙ clamp-fits s B (pos 0) (subst (InRange s B) d f)

pub quotient-self : (x : ℤ) → x ≢ pos 0 → int_div x x ≡ pos 1
quotient-self (pos zero) h = absurd (h refl)
quotient-self (pos (suc n)) h = ap pos (div_self (omega arith))
quotient-self (negsuc n) h = ap pos (div_self (omega arith))

pub quotient-of_equal : (x y : ℤ) → y ≢ pos 0 → x ≡ y → int_div x y ≡ pos 1
quotient-of_equal x y n d = ap (λ (w : ℤ). int_div w y) d ∙ quotient-self y n

-- the same for a quotient that wraps, and for one that saturates
pub wrapped-itself : (s : Bool) (B : ℕ) (x y z : ℤ) → 1 ≤ B → z ≡ wrap s B (int_div x y) → y ≢ pos 0 → InRange s B (pos 1) → x ≡ y → z ≡ pos 1
wrapped-itself s B x y z h e n f d = e ∙ ap (wrap s B) (quotient-of_equal x y n d) ∙ wrap-of_in_range s B (pos 1) h f

pub clamped-itself : (s : Bool) (B : ℕ) (x y z : ℤ) → z ≡ clamp s B (int_div x y) → y ≢ pos 0 → InRange s B (pos 1) → x ≡ y → z ≡ pos 1
clamped-itself s B x y z e n f d = e ∙ ap (clamp s B) (quotient-of_equal x y n d) ∙ clamp-fits s B (pos 1) f

-- the one quotient that is out of range wraps to its dividend
quotient-of_least : (s : Bool) (B : ℕ) (x y : ℤ) → 1 ≤ B → InRange s B x → InRange s B y → x ≡ lo s B → y ≡ neg_ℤ (pos 1) → wrap s B (int_div x y) ≡ x
quotient-of_least false B x y h f g e d = let l = g.low in absurd (omega (arith, ints))
quotient-of_least true B (pos n) y h f g e d = let p = pow_pos (B - 1) in absurd (omega (arith, ints))
quotient-of_least true B (negsuc m) y h f g e d =
    let p = pow_half B h in
    let q : int_div (negsuc m) y ≡ pos (suc m) = ap (int_div (negsuc m)) d ∙ ap pos (let i : suc m / 1 ≡ suc m = omega arith in i) in
    let c : Congruent B (pos (suc m)) (negsuc m) = Congruent-by_times B _ _ (pos 1) (omega (arith, ints)) in
    ap (wrap true B) q ∙ wrap-same true B (pos (suc m)) (negsuc m) c ∙ wrap-of_in_range true B (negsuc m) h f

pub wrapped-of_least : (s : Bool) (B : ℕ) (x y z : ℤ) → 1 ≤ B → InRange s B x → InRange s B y → z ≡ wrap s B (int_div x y) → x ≡ lo s B → y ≡ neg_ℤ (pos 1) → z ≡ x
wrapped-of_least s B x y z h f g e d n = e ∙ quotient-of_least s B x y h f g d n

-- the number of 128 bits that a number is extended to, cut again
pub to_u128_bits-back : (s : Bool) (B : ℕ) (x : ℤ) → 1 ≤ B → B ≤ 128 → InRange s B x → wrap s B (pos (residue 128 x)) ≡ x
to_u128_bits-back s B x h g f =
    wrap-same s B (pos (residue 128 x)) x (Congruent-narrower B 128 (pos (residue 128 x)) x g (residue-congruent 128 x))
    ∙ wrap-of_in_range s B x h f

-- the same for an equal result and an equal pattern
pub to_u128_bits-undone : (s : Bool) (B p : ℕ) (z y : ℤ) → 1 ≤ B → B ≤ 128 → InRange s B y → p ≡ residue 128 y → z ≡ wrap s B (pos p) → z ≡ y
to_u128_bits-undone s B p z y h g f e d = d ∙ ap (λ (q : ℕ). wrap s B (pos q)) e ∙ to_u128_bits-back s B y h g f
