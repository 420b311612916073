use Rattle.std.proofs.Common.{◌∙◌, ap}
use Rattle.arbitrary_base.specs.Residue.{wrap}
use Rattle.arbitrary_base.proofs.modular.Inverse.{counterpart-undoes}
use Rattle.arbitrary_base.proofs.modular.ExactOrCongruent.{wrapped-congruent}
use Rattle.arbitrary_core.proofs.integer.signed.IntInteger.from_unsigned.Goals as goal

pub returns : goal.returns
returns g c =
    let e = c.from_bits.ensures.number ∙ ap (wrap g.T.Storage.SIGNED g.row.BITS) c.value.ensures.number in
    let k = wrapped-congruent g.T.Storage.SIGNED g.row.BITS _ _ e in
    record {
      value = e;
      congruent = k;
      undo = λ y f d. counterpart-undoes g.T.Storage.SIGNED g.row.BITS _ _ y (c.value.ensures.width.0) f d e;
    }
