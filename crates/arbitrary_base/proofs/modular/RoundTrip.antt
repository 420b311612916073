-- A number in range and its pattern determine each other: the pattern is the residue, and its truncation is the
-- number.
use Rattle.std.specs.Prelude.{◌≡◌, ℕ, ℤ, Bool, false, pos, ◌≤◌, ◌<◌, ◌^◌, unsigned_abs}
use Rattle.std.proofs.Common.{refl, ap, sym, subst}
use Rattle.arbitrary_base.specs.Range.{InRange}
use Rattle.arbitrary_base.specs.Residue.{Congruent, residue, wrap}
use Rattle.arbitrary_base.specs.BitList.{bits}
use Rattle.arbitrary_base.proofs.modular.Congruence.{Congruent-sym}
use Rattle.arbitrary_base.proofs.modular.Residue.{wrap-congruent, wrap-unique}
use Rattle.arbitrary_base.proofs.modular.Truncation.{number-of_pattern, residue-wrap}
use Rattle.arbitrary_base.proofs.storages.Primitive.{unsigned-in_range}
use Rattle.arbitrary_base.proofs.bit_lists.TwosComplement.{bits-residue}

-- the pattern p of the number that it has, and of the unsigned type t
pub pattern-stays : (s t : Bool) (B : ℕ) (p : ℤ) → t ≡ false → 1 ≤ B → InRange t B p → pos (residue B (wrap s B p)) ≡ p
pattern-stays s t B p e h f = number-of_pattern s t B p (wrap s B p) (wrap s B p) e h f refl refl

-- the number x of the pattern that it has at the sign t
pub number-stays : (s t : Bool) (B : ℕ) (x p : ℤ) → 1 ≤ B → InRange s B x → p ≡ wrap t B x → wrap s B p ≡ x
number-stays s t B x p h f e =
    wrap-unique s B p x h f (subst (λ (z : ℤ). Congruent B x z) (sym e) (Congruent-sym B _ x (wrap-congruent t B x)))

-- ---- the laws

pub number-of_residue : (s : Bool) (B : ℕ) (x : ℤ) → 1 ≤ B → InRange s B x → wrap s B (pos (residue B x)) ≡ x
number-of_residue s B x h f = number-stays s false B x (pos (residue B x)) h f (residue-wrap B x h)

pub residue-of_number : (s : Bool) (B p : ℕ) → 1 ≤ B → p < 2 ^ B → residue B (wrap s B (pos p)) ≡ p
residue-of_number s B p h f = ap unsigned_abs (pattern-stays s false B (pos p) refl h (unsigned-in_range B p f))

pub bits-of_residue : (B : ℕ) (x : ℤ) → bits B (pos (residue B x)) ≡ bits B x
bits-of_residue B x = bits-residue B (residue B x) x refl
