-- A value that is the number of its own bits is in range. `&=`, `|=` and `^=` state the first fact about a value
-- behind `&mut`.
use Rattle.std.specs.Prelude.{◌≡◌, ◌≤◌, ℕ, ℤ, Bool}
use Rattle.std.proofs.Common.{refl, sym, subst, ◌∙◌}
use Rattle.arbitrary_base.specs.Range.{InRange}
use Rattle.arbitrary_base.specs.BitList.{bits, val}
use Rattle.arbitrary_base.proofs.bit_lists.TwosComplement.{val-bits}
use Rattle.arbitrary_base.proofs.modular.Residue.{wrap-in_range}

-- The first part says nothing: it shows the search the bits.
pub own_bits-in_range : (s : Bool) (B : ℕ) (x : ℤ) → 1 ≤ B → (val s (bits B x) ≡ val s (bits B x)) × (val s (bits B x) ≡ x → InRange s B x)
own_bits-in_range s B x h = (refl, λ e. subst (InRange s B) (sym (val-bits s B x h) ∙ e) (wrap-in_range s B x h))
