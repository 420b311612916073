use Rattle.std.specs.Prelude.{neg_ℤ}
use Rattle.arbitrary_base.specs.Residue.{wrap}
use Rattle.arbitrary_base.proofs.modular.ExactOrCongruent.{wrapped-congruent, wrapped-exact}
use Rattle.arbitrary_base.proofs.operations.WrappedRing.{negated-is, negated-undone}
use Rattle.arbitrary_core.proofs.Results.{of_number}
use Rattle.arbitrary_core.proofs.unsigned.UInt.wrapping_neg.Goals as goal

pub returns : goal.returns
returns g c =
    let w = c.value.ensures.width.0 in
    let e = of_number (λ x. wrap g.T.Storage.SIGNED g.row.BITS (neg_ℤ x)) c.value.ensures.number c.neg.ensures.value c.new.ensures in
    record {
      value = e;
      exact = λ h. wrapped-exact _ _ _ _ w h e;
      congruent = wrapped-congruent _ _ _ _ e;
      operation = negated-is _ _ _ _ e;
      undo = negated-undone _ _ _ _ w c.value.ensures.self_in_range e;
    }
