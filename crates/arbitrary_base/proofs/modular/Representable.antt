-- The numbers of a type for `num_traits`, whose laws have no premise on the width. They are the numbers that
-- wrapping does not change, and at a valid width those in range. The impls of `arbitrary_core` use these.
use Rattle.std.specs.Prelude.{◌≡◌, ◌↔◌, ℕ, ℤ, Bool, pos, ◌+ℤ◌, ◌-ℤ◌, ◌<◌, ◌≤◌, ◌≤ℤ◌, ◌^◌, unsigned_abs}
use Rattle.std.proofs.Common.{refl, ap, sym, subst, ◌∙◌, arith}
use Rattle.std.proofs.lemmas.Int.{ints}
use Rattle.arbitrary_base.specs.Range.{lo, InRange}
use Rattle.arbitrary_base.specs.Residue.{residue, wrap}
use Rattle.arbitrary_base.proofs.modular.Residue.{residue-lt, wrap-in_range, wrap-of_in_range}
use Rattle.arbitrary_base.proofs.storages.Primitive.{residue-pos}

pub representable-in_range : (s : Bool) (B : ℕ) (x : ℤ) → 1 ≤ B → (wrap s B x ≡ x) ↔ InRange s B x
representable-in_range s B x h = ((λ e. subst (λ (z : ℤ). InRange s B z) e (wrap-in_range s B x h)), (λ f. wrap-of_in_range s B x h f))

-- a number that is less than 2 ^ B above the least
representable-above : (s : Bool) (B n : ℕ) (y : ℤ) → n < 2 ^ B → y ≡ lo s B +ℤ pos n → wrap s B y ≡ y
unfolding wrap
representable-above s B n y h e =
    let d : y -ℤ lo s B ≡ pos n = omega (arith, ints) in
    let r : residue B (y -ℤ lo s B) ≡ n = ap (residue B) d ∙ residue-pos B n h in
    ap (λ (m : ℕ). lo s B +ℤ pos m) r ∙ sym e

pub representable-wrap : (s : Bool) (B : ℕ) (x : ℤ) → wrap s B (wrap s B x) ≡ wrap s B x
representable-wrap s B x = representable-above s B (residue B (x -ℤ lo s B)) (wrap s B x) (residue-lt B (x -ℤ lo s B)) (unfold wrap in refl)

pub representable-between : (s : Bool) (B : ℕ) (x y z : ℤ) → wrap s B x ≡ x → wrap s B z ≡ z → x ≤ℤ y → y ≤ℤ z → wrap s B y ≡ y
unfolding wrap
representable-between s B x y z f g h k =
    let low = residue-lt B (x -ℤ lo s B) in
    let high = residue-lt B (z -ℤ lo s B) in
    representable-above s B (unsigned_abs (y -ℤ lo s B)) y (omega (arith, ints)) (omega (arith, ints))

pub ruleset ranges = (representable-in_range)
