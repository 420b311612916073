-- Why a conversion from a type to its counterpart of the other sign keeps the bits.
use Rattle.std.specs.Prelude.{◌≡◌, ℕ, ℤ, Bool, false, pos, ◌≤◌}
use Rattle.std.proofs.Common.{sym, subst, ◌∙◌}
use Rattle.arbitrary_base.specs.Range.{InRange}
use Rattle.arbitrary_base.specs.Residue.{residue, wrap}
use Rattle.arbitrary_base.proofs.modular.Residue.{wrap-of_in_range}
use Rattle.arbitrary_base.proofs.modular.Truncation.{residue-wrap}

-- a number in range is the truncation of itself
pub wrap-stays : (s : Bool) (B : ℕ) (x v r : ℤ) → 1 ≤ B → InRange s B x → v ≡ x → r ≡ v → r ≡ wrap s B x
wrap-stays s B x v r h f e d = d ∙ e ∙ sym (wrap-of_in_range s B x h f)

pub wrap-kept_at : (s t : Bool) (B : ℕ) (x v r : ℤ) → s ≡ t → 1 ≤ B → InRange s B x → v ≡ x → r ≡ v → r ≡ wrap t B x
wrap-kept_at s t B x v r k h f = wrap-stays t B x v r h (subst (λ (u : Bool). InRange u B x) k f)

-- the unsigned number of the bits of x
pub wrap-bits : (B : ℕ) (x v r : ℤ) → 1 ≤ B → v ≡ pos (residue B x) → r ≡ v → r ≡ wrap false B x
wrap-bits B x v r h e d = d ∙ e ∙ residue-wrap B x h
