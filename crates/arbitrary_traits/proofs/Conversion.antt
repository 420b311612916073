-- Why a number converts from one type to another through its bits.
use Rattle.std.specs.Prelude.{◌≡◌, ◌≤◌, ◌^◌, ◌<◌, ◌-◌, ◌≤ℤ◌, ◌%◌, ℕ, ℤ, Bool, true, false, pos, negsuc, unsigned_abs}
use Rattle.std.proofs.Common.{◌∙◌, ap, arith, subst}
use Rattle.std.proofs.lemmas.Int.{ints}
use Rattle.std.proofs.lemmas.Nat.{pow_pos}
use Rattle.arbitrary_base.specs.Range.{InRange}
use Rattle.arbitrary_base.specs.Residue.{residue, wrap}
use Rattle.arbitrary_base.proofs.modular.Congruence.{pow_le}
use Rattle.arbitrary_base.proofs.modular.Truncation.{wrap-residue}
use Rattle.arbitrary_base.proofs.storages.Primitive.{residue-pos, wrap-pos}

-- the residue modulo 2 ^ 128 wraps as the number does
pub wrap-to_u128_bits : (s : Bool) (B p : ℕ) (x z : ℤ) → (1 ≤ B) × (B ≤ 128) → p ≡ residue 128 x → z ≡ wrap s B (pos p) → z ≡ wrap s B x
wrap-to_u128_bits s B p x z h e f = wrap-residue s B p x z h.0 h.1 e f

-- the truncation of x at a width that is known to be B
pub wrap-at : (s : Bool) {W B : ℕ} (x : ℤ) {z : ℤ} → W ≡ B → z ≡ wrap s W x → z ≡ wrap s B x
wrap-at s x w e = e ∙ ap (λ (n : ℕ). wrap s n x) w

-- with no sign on either side the low bits are a remainder
pub low-of_unsigned : (s t : Bool) (A B : ℕ) (x z : ℤ) → 1 ≤ B → InRange t A x → s ≡ false → t ≡ false → z ≡ wrap s B x → z ≡ pos (unsigned_abs x % 2 ^ B)
low-of_unsigned s t A B (pos n) z h f d e w = w ∙ ap (λ (u : Bool). wrap u B (pos n)) d ∙ wrap-pos B n h
low-of_unsigned s t A B (negsuc n) z h f d e w = let r = subst (λ (u : Bool). InRange u A (negsuc n)) e f in let l = r.low in absurd (omega (arith, ints))

-- a number from 0 up is its own pattern
pub amount-stays : (s : Bool) (B p : ℕ) (x : ℤ) → 1 ≤ B → p ≡ residue B x → InRange s B x → pos 0 ≤ℤ x → pos p ≡ x
amount-stays s B p (negsuc n) h e f l = absurd (omega (arith, ints))
amount-stays s B p (pos n) h e f l = ap pos (e ∙ residue-pos B n (below s f))
  where
    below : (s : Bool) → InRange s B (pos n) → n < 2 ^ B
    below false f = let u = f.high in let o = pow_pos B in omega (arith, ints)
    below true f = let u = f.high in let o = pow_le (B - 1) B (omega arith) in omega (arith, ints)

-- with no sign a number is its own pattern, in as many bits as there are or more
pub pattern-of_unsigned : (s : Bool) (B p : ℕ) (x : ℤ) → B ≤ 128 → InRange s B x → p ≡ residue 128 x → s ≡ false → pos p ≡ x
pattern-of_unsigned true B p x h f e n = absurd (cc)
pattern-of_unsigned false B p x h f e n =
    let o = pow_le B 128 h in
    amount-stays false 128 p x (omega arith) e (record { low = f.low; high = omega (arith, ints, f.high, o) }) f.low

pub ruleset patterns = (pattern-of_unsigned)
