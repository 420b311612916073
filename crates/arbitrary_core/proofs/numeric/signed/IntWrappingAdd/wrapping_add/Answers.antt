use Rattle.std.specs.Prelude.{◌+ℤ◌}
use Rattle.std.proofs.Common.{sym, ◌∙◌}
use Rattle.arbitrary_base.specs.Residue.{wrap}
use Rattle.arbitrary_base.proofs.modular.ExactOrCongruent.{wrapped-congruent, wrapped-exact}
use Rattle.arbitrary_base.proofs.modular.Inverse.{sub-undoes}
use Rattle.arbitrary_base.proofs.operations.Definition.{difference-is, sum-is}
use Rattle.arbitrary_core.proofs.Results.{of_numbers}
use Rattle.arbitrary_core.proofs.numeric.signed.IntWrappingAdd.wrapping_add.Goals as goal

pub returns : goal.returns
returns g c =
    let w = c.value.ensures.width.0 in
    let e = of_numbers (λ x y. wrap g.T.Storage.SIGNED g.row.BITS (x +ℤ y)) c.value.ensures.number c.value-2.ensures.number c.add.ensures.value c.new.ensures in
    record {
      operation = e ∙ sym (sum-is _ _ _ _);
      value = e;
      exact = λ h. wrapped-exact _ _ _ _ w h e;
      congruent = wrapped-congruent _ _ _ _ e;
      undo = sub-undoes _ _ c.new.result c.args.v.now _ _ w c.value.ensures.self_in_range e (difference-is _ _ _ _);
      self_in_range = c.value.ensures.self_in_range;
      v_in_range = c.value-2.ensures.self_in_range;
    }
