use Rattle.arbitrary_base.proofs.modular.ExactOrCongruent.{wrapped-congruent}
use Rattle.arbitrary_base.proofs.modular.Inverse.{counterpart-undoes}
use Rattle.arbitrary_traits.proofs.Conversion.{wrap-at}
use Rattle.arbitrary_traits.proofs.primitives.AnyInteger.from_unsigned.Goals as goal

pub returns : goal.returns
returns g c =
    let e = wrap-at _ _ c.WIDTH.ensures c.cast.ensures.value in
    record {
      value = e;
      congruent = wrapped-congruent _ _ _ _ e;
      undo = λ y f d. counterpart-undoes g.T.Storage.SIGNED g.T.Storage.WIDTH _ _ y (g.met.T.Storage.width_law.0) f d e;
    }
