-- The mean of two numbers, computed from their halves.
use Rattle.std.specs.Prelude.{◌≡◌, ℕ, ℤ, Bool, true, false, pos, int_div, ◌+ℤ◌, ◌+◌, ◌/◌, ◌%◌, ◌≤◌}
use Rattle.std.proofs.Common.{arith, ap, refl, ◌∙◌}
use Rattle.std.proofs.lemmas.Int.{ints}
use Rattle.arbitrary_int.specs.Range.{InRange}
use Rattle.arbitrary_int.specs.Residue.{residue}
use Rattle.arbitrary_int.proofs.Truncation.{InRange-wider, residue-wrap}
use Rattle.arbitrary_int.proofs.Residue.{wrap-of_in_range}

number-is : (B p : ℕ) (x : ℤ) → (1 ≤ B) × (B ≤ 128) → InRange false B x → p ≡ residue 128 x → pos p ≡ x
number-is B p x w f e = ap pos e ∙ residue-wrap 128 x (omega arith) ∙ wrap-of_in_range false 128 x (omega arith) (InRange-wider false B 128 x w.0 w.1 f)

unsigned-mean : (B p q m : ℕ) (x y : ℤ) → InRange false B x → InRange false B y → pos p ≡ x → pos q ≡ y
    → m ≡ p / 2 + q / 2 + (p % 2 + q % 2) / 2 → InRange false B (pos m) × (pos m ≡ int_div (x +ℤ y) (pos 2))
unsigned-mean B p q m x y f g d e h =
    let k : m ≡ (p + q) / 2 = omega (arith, h) in
    (record { low = omega (arith, ints); high = omega (arith, ints, f.high, g.high, k) }, ap pos k ∙ rw (← d, ← e) refl)

pub mean-is : (s : Bool) (B p q m : ℕ) (x y : ℤ) → s ≡ false → (1 ≤ B) × (B ≤ 128) → InRange s B x → InRange s B y → p ≡ residue 128 x → q ≡ residue 128 y
    → m ≡ p / 2 + q / 2 + (p % 2 + q % 2) / 2 → InRange s B (pos m) × (pos m ≡ int_div (x +ℤ y) (pos 2))
mean-is false B p q m x y u w f g d e h = unsigned-mean B p q m x y f g (number-is B p x w f d) (number-is B q y w g e) h
mean-is true B p q m x y u w f g d e h = absurd (cc)
