use Rattle.std.specs.Prelude.{◌+ℤ◌}
use Rattle.std.proofs.Common.{subst, sym}
use Rattle.arbitrary_base.specs.Range.{InRange}
use Rattle.arbitrary_base.specs.Saturating.{clamp}
use Rattle.arbitrary_base.proofs.storages.Clamp.{clamped-exact, clamped-above, clamped-below}
use Rattle.arbitrary_core.proofs.Results.{of_numbers}
use Rattle.arbitrary_core.proofs.bounds.unsigned.UIntSaturatingAdd.saturating_add.Goals as goal

pub add-requires-clause-x_in_range : goal.add-requires-clause-x_in_range
add-requires-clause-x_in_range g c = subst (InRange _ _) (sym c.value.ensures.number) c.value.ensures.self_in_range

pub add-requires-clause-y_in_range : goal.add-requires-clause-y_in_range
add-requires-clause-y_in_range g c = subst (InRange _ _) (sym c.value-2.ensures.number) c.value-2.ensures.self_in_range

pub returns : goal.returns
returns g c =
    let e = of_numbers (λ x y. clamp g.T.Storage.SIGNED g.row.BITS (x +ℤ y)) c.value.ensures.number c.value-2.ensures.number c.add.ensures.value c.new.ensures in
    record {
      value = e;
      exact = λ h. clamped-exact _ _ _ _ h e;
      above = λ h. clamped-above _ _ _ _ c.value.ensures.width.0 h e;
      below = λ h. clamped-below _ _ _ _ h e;
      result_in_range = subst (InRange _ _) (sym c.new.ensures) c.add.ensures.result_in_range;
      self_in_range = c.value.ensures.self_in_range;
      v_in_range = c.value-2.ensures.self_in_range;
    }
