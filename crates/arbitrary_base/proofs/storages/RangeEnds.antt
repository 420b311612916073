-- The least and the greatest number of a type, and saturating results, as `num_traits` states them.
use Rattle.std.specs.Prelude.{◌≡◌, ◌↔◌, ◌≤ℤ◌, ◌<ℤ◌, ◌≤◌, ◌-◌, ℕ, ℤ, Bool, true, false, pos}
use Rattle.std.specs.Int.{IsInRange}
use Rattle.std.proofs.Common.{arith, ◌∙◌}
use Rattle.std.proofs.lemmas.Int.{ints}
use Rattle.std.proofs.lemmas.Nat.{pow_pos}
use Rattle.arbitrary_base.specs.Range.{lo, hi}
use Rattle.arbitrary_base.specs.Residue.{wrap}
use Rattle.arbitrary_base.specs.Saturating.{clamp}
use Rattle.arbitrary_base.proofs.modular.Congruence.{pow_le}
use Rattle.arbitrary_base.proofs.modular.Residue.{wrap-in_range}
use Rattle.arbitrary_base.proofs.storages.Clamp.{clamp-fits, clamp-above, clamp-below}
use Rattle.arbitrary_base.proofs.modular.Representable.{representable-in_range}

-- the ends in order, with 0 among the numbers between them
pub ends-in_order : (s : Bool) (B : ℕ) → 1 ≤ B → (lo s B ≤ℤ pos 0) × (pos 0 ≤ℤ hi s B) × (lo s B <ℤ hi s B)
ends-in_order false B o = let p = pow_le 1 B o in (omega (arith, ints), omega (arith, ints), omega (arith, ints))
ends-in_order true B o = let p = pow_pos (B - 1) in (omega (arith, ints), omega (arith, ints), omega (arith, ints))

-- the low end is not above the high end
ends : (s : Bool) (B : ℕ) → 1 ≤ B → lo s B ≤ℤ hi s B
ends s B o =
    let r = wrap-in_range s B (pos 0) o in
    let l = r.low in
    let h = r.high in
    omega (arith, ints)

pub bounds : (s : Bool) (B W : ℕ) (x : ℤ) → IsInRange 1 W B → (wrap s B x ≡ x) ↔ ((lo s B ≤ℤ x) × (x ≤ℤ hi s B))
bounds s B W x v =
    let p = representable-in_range s B x v.0 in
    ((λ f. let r = p.0 f in (r.low, r.high)), (λ h. p.1 (record { low = h.0; high = h.1 })))

pub low_fits : (s : Bool) (B W : ℕ) → IsInRange 1 W B → wrap s B (lo s B) ≡ lo s B
low_fits s B W v = let e = ends s B v.0 in (bounds s B W (lo s B) v).1 (omega (arith, ints), e)

pub high_fits : (s : Bool) (B W : ℕ) → IsInRange 1 W B → wrap s B (hi s B) ≡ hi s B
high_fits s B W v = let e = ends s B v.0 in (bounds s B W (hi s B) v).1 (e, omega (arith, ints))

pub saturates : (s : Bool) (B W : ℕ) (x r : ℤ) → IsInRange 1 W B → r ≡ clamp s B x
    → (wrap s B x ≡ x → r ≡ x) × (hi s B <ℤ x → r ≡ hi s B) × (x <ℤ lo s B → r ≡ lo s B)
saturates s B W x r v e = (
  (λ f. e ∙ clamp-fits s B x (let p = representable-in_range s B x v.0 in p.0 f)),
  (λ l. e ∙ clamp-above s B x v.0 l),
  (λ l. e ∙ clamp-below s B x l),
)
