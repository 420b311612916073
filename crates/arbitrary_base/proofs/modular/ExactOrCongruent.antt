-- A wrapped result in arithmetic: exact if it is in range, and congruent otherwise.
use Rattle.std.specs.Prelude.{◌≡◌, ℕ, ℤ, Bool, true, false, pos, ◌-◌, ◌^◌, ◌≤◌, ◌<◌, ◌-ℤ◌}
use Rattle.std.proofs.Common.{arith, sym, subst, ◌∙◌}
use Rattle.std.proofs.lemmas.Int.{ints}
use Rattle.std.proofs.lemmas.Nat.{pow_pos}
use Rattle.arbitrary_base.specs.Range.{InRange}
use Rattle.arbitrary_base.specs.Residue.{Congruent, wrap}
use Rattle.arbitrary_base.proofs.modular.Congruence.{pow_le}
use Rattle.arbitrary_base.proofs.modular.Residue.{wrap-congruent, wrap-of_in_range}

pub wrapped-exact : (s : Bool) (B : ℕ) (x z : ℤ) → 1 ≤ B → InRange s B x → z ≡ wrap s B x → z ≡ x
wrapped-exact s B x z h f e = e ∙ wrap-of_in_range s B x h f

pub wrapped-congruent : (s : Bool) (B : ℕ) (x z : ℤ) → z ≡ wrap s B x → Congruent B z x
wrapped-congruent s B x z e = subst (λ (y : ℤ). Congruent B y x) (sym e) (wrap-congruent s B x)

-- a mask is a number of its storage; where it has a sign, only below the storage's width
pub low_mask-below : (s : Bool) (B W : ℕ) (z : ℤ) → B < W → z ≡ wrap s W (pos (2 ^ B) -ℤ pos 1) → z ≡ pos (2 ^ B) -ℤ pos 1
low_mask-below s B W z g e = wrapped-exact s W (pos (2 ^ B) -ℤ pos 1) z (omega arith) (within s) e
  where
    within : (s : Bool) → InRange s W (pos (2 ^ B) -ℤ pos 1)
    within false = let o = pow_pos B in let p = pow_le B W (omega arith) in record { low = omega (arith, ints); high = omega (arith, ints) }
    within true = let o = pow_pos B in let p = pow_le B (W - 1) (omega arith) in record { low = omega (arith, ints); high = omega (arith, ints) }

pub low_mask-unsigned : (s : Bool) (B W : ℕ) (z : ℤ) → s ≡ false → 1 ≤ B → B ≤ W → z ≡ wrap s W (pos (2 ^ B) -ℤ pos 1) → z ≡ pos (2 ^ B) -ℤ pos 1
low_mask-unsigned true B W z d h g e = absurd (cc)
low_mask-unsigned false B W z d h g e =
    let o = pow_pos B in
    let p = pow_le B W g in
    wrapped-exact false W (pos (2 ^ B) -ℤ pos 1) z (omega arith) (record { low = omega (arith, ints); high = omega (arith, ints) }) e
