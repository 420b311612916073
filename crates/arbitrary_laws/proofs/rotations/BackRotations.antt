-- A rotation to the right by a variable amount as one to the left by the width minus the amount. Callers name the
-- set `back_rotations`.
use Rattle.std.specs.Prelude.{Bool, suc, zero, ℕ, ℤ, ◌%◌, ◌*◌, ◌+◌, ◌-◌, ◌/◌, ◌<◌, ◌≡◌, ◌≤◌, ◌⊎◌}
use Rattle.std.proofs.Common.{ap, arith, div-add-mod', inl, inr, sym, ◌∙◌}
use Rattle.std.proofs.Math.Nat.{div-eq_of_lt-le, mod-eq_of_lt}
use Rattle.std.proofs.lemmas.Bool.{cases_lt}
use Rattle.std.proofs.lemmas.Bool.Decides.{Decides-int_eq}
use Rattle.arbitrary_base.specs.Operation.{rotated_left, rotated_right}
use Rattle.arbitrary_base.specs.Range.{InRange}
use Rattle.arbitrary_base.proofs.operations.RotateAndReverse.{rotated_left-none, rotated_right-as_left, rotated_right-none}

-- two amounts that make a whole round have a remainder of 0: a case for none would split the search
pub right-as_left_round : (s : Bool) (B : ℕ) (x : ℤ) (j k : ℕ) → 1 ≤ B → InRange s B x → j < B → k < B → (j + k) % B ≡ 0 → rotated_right s B x j ≡ rotated_left s B x k
right-as_left_round s B x zero k h f g l e =
    let m = mod-eq_of_lt l in
    let t : 0 + k ≡ k = omega arith in
    let z : k ≡ 0 = sym m ∙ (ap (λ (w : ℕ). w % B) (sym t) ∙ e) in
    rotated_right-none s B x h f ∙ sym (ap (rotated_left s B x) z ∙ rotated_left-none s B x h f)
right-as_left_round s B x (suc j) k h f g l e = rotated_right-as_left s B x (suc j) (omega arith) ∙ ap (rotated_left s B x) (by-order (cases_lt (suc j + k) B))
  where
    by-order : (suc j + k < B) ⊎ (B ≤ suc j + k) → B - suc j ≡ k
    by-order (inl less) = let z = mod-eq_of_lt less in absurd (omega arith)
    by-order (inr more) =
        let q : (suc j + k) / B ≡ 1 = div-eq_of_lt-le {k = 1} B (omega arith) (omega arith) in
        let t = div-add-mod' (suc j + k) B in
        let p = ap (λ (w : ℕ). w * B) q in
        omega arith

pub ruleset back_rotations = (Decides-int_eq, right-as_left_round)
