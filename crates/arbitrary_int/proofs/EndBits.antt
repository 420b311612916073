-- Why the constants of `Int` have the bits of 0, of the least and of the greatest number.
use Rattle.std.specs.Prelude.{◌≡◌, ◌≢◌, ℕ, ℤ, Bool, true, false, pos, neg_ℤ, ◌+ℤ◌, ◌-ℤ◌, ◌-◌, ◌+◌, ◌^◌, ◌≤◌, ◌≤ℤ◌, ◌<◌}
use Rattle.std.proofs.Common.{arith, sym, subst, ◌∙◌}
use Rattle.std.proofs.lemmas.Int.{ints}
use Rattle.std.proofs.lemmas.Nat.{pow_pos}
use Rattle.arbitrary_base.specs.Range.{lo, hi, InRange}
use Rattle.arbitrary_base.specs.Residue.{wrap, Congruent}
use Rattle.arbitrary_base.proofs.modular.Congruence.{pow_half, pow_le, Congruent-from_apart}
use Rattle.arbitrary_base.proofs.modular.Residue.{wrap-unique, wrap-of_in_range}

-- bits up to the highest alone are the bits of a number
pub bits-fit : (u : Bool) (B : ℕ) (p : ℤ) → u ≡ false → 1 ≤ B → pos 0 ≤ℤ p → p ≤ℤ pos (2 ^ (B - 1)) → InRange u B p
bits-fit u B p e h l k =
    let q = pow_half B h in
    let r = pow_pos (B - 1) in
    subst (λ (v : Bool). InRange v B p) (sym e) (record { low = omega (arith, ints); high = omega (arith, ints) })

at_true : (s : Bool) (B : ℕ) (p x : ℤ) → s ≡ true → wrap true B p ≡ x → wrap s B p ≡ x
at_true s B p x e f = subst (λ (v : Bool). wrap v B p ≡ x) (sym e) f

least-apart : (B : ℕ) (p : ℤ) → 1 ≤ B → p ≡ pos (2 ^ (B - 1)) → Congruent B (neg_ℤ (pos (2 ^ (B - 1)))) p
least-apart B p h d = let q = pow_half B h in Congruent-from_apart B _ _ (1, 0, omega (arith, ints))

greatest-same : (B : ℕ) (p : ℤ) → p +ℤ pos 1 ≡ pos (2 ^ (B - 1)) → p ≡ pos (2 ^ (B - 1)) -ℤ pos 1
greatest-same B p d = omega (arith, ints)

zero-in : (B : ℕ) (p : ℤ) → p ≡ pos 0 → InRange true B p
zero-in B p d = let q = pow_pos (B - 1) in record { low = omega (arith, ints); high = omega (arith, ints) }

least-in : (B : ℕ) → InRange true B (neg_ℤ (pos (2 ^ (B - 1))))
least-in B = let q = pow_pos (B - 1) in record { low = omega (arith, ints); high = omega (arith, ints) }

greatest-in : (B : ℕ) (p : ℤ) → p +ℤ pos 1 ≡ pos (2 ^ (B - 1)) → InRange true B p
greatest-in B p d = let q = pow_pos (B - 1) in record { low = omega (arith, ints); high = omega (arith, ints) }

-- the numbers of these bits
pub zero-number : (s : Bool) (B : ℕ) (p : ℤ) → s ≡ true → 1 ≤ B → p ≡ pos 0 → wrap s B p ≡ pos 0
zero-number s B p e h d = at_true s B p _ e (wrap-of_in_range true B p h (zero-in B p d)) ∙ d

pub least-number : (s : Bool) (B : ℕ) (p : ℤ) → s ≡ true → 1 ≤ B → p ≡ pos (2 ^ (B - 1)) → wrap s B p ≡ lo true B
least-number s B p e h d = at_true s B p _ e (wrap-unique true B p (neg_ℤ (pos (2 ^ (B - 1)))) h (least-in B) (least-apart B p h d))

pub greatest-number : (s : Bool) (B : ℕ) (p : ℤ) → s ≡ true → 1 ≤ B → p +ℤ pos 1 ≡ pos (2 ^ (B - 1)) → wrap s B p ≡ hi true B
greatest-number s B p e h d = at_true s B p _ e (wrap-of_in_range true B p h (greatest-in B p d)) ∙ greatest-same B p d

-- the bits of a width below the storage's do not reach its sign
pub below_sign : (B m : ℕ) → B ≤ 128 → B ≢ 128 → m + 1 ≡ 2 ^ B → m < 2 ^ 127
below_sign B m h n e = let p = pow_le B 127 (omega (arith, n)) in omega arith
