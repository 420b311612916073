use Rattle.arbitrary_base.proofs.modular.Inverse.{counterpart-undoes}
use Rattle.arbitrary_base.proofs.modular.ExactOrCongruent.{wrapped-congruent}
use Rattle.arbitrary_core.proofs.Counterpart.{wrap-stays}
use Rattle.arbitrary_core.proofs.integer.unsigned.UIntInteger.from_unsigned.Goals as goal

pub returns : goal.returns
returns g c =
    let e = wrap-stays g.T.Storage.SIGNED g.row.BITS _ _ _ (c.value.ensures.width.0) c.value.ensures.self_in_range c.value.ensures.number c.new.ensures in
    let k = wrapped-congruent g.T.Storage.SIGNED g.row.BITS _ _ e in
    record {
      value = e;
      congruent = k;
      undo = λ y f d. counterpart-undoes g.T.Storage.SIGNED g.row.BITS _ _ y (c.value.ensures.width.0) f d e;
    }
