-- Why a number keeps its value at more bits of the same sign.
use Rattle.std.specs.Prelude.{◌≡◌, ℕ, ℤ, Bool, ◌≤◌}
use Rattle.std.proofs.Common.{subst, ap, ◌∙◌, le_trans}
use Rattle.arbitrary_base.specs.Range.{InRange}
use Rattle.arbitrary_base.specs.Residue.{wrap}
use Rattle.arbitrary_base.proofs.modular.Residue.{wrap-of_in_range}
use Rattle.arbitrary_base.proofs.modular.Truncation.{InRange-wider}

wrap-wider : (s t : Bool) (A B : ℕ) (x : ℤ) → s ≡ t → 1 ≤ A → A ≤ B → InRange s A x → wrap t B x ≡ x
wrap-wider s t A B x e h g f =
    let i : InRange t A x = subst (λ (u : Bool). InRange u A x) e f in
    wrap-of_in_range t B x (le_trans h g) (InRange-wider t A B x h g i)

-- the number r is that of v at B bits, and v is the number x of A bits
pub kept : (s t : Bool) (A B : ℕ) (x v r : ℤ) → s ≡ t → 1 ≤ A → A ≤ B → InRange s A x → v ≡ x → r ≡ wrap t B v → r ≡ x
kept s t A B x v r e h g f d c = c ∙ ap (wrap t B) d ∙ wrap-wider s t A B x e h g f
