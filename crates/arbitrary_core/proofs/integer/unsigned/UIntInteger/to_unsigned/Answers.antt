use Rattle.std.specs.Prelude.{false}
use Rattle.arbitrary_base.proofs.modular.ExactOrCongruent.{wrapped-congruent}
use Rattle.arbitrary_core.proofs.Counterpart.{wrap-kept_at}
use Rattle.arbitrary_core.proofs.integer.unsigned.UIntInteger.to_unsigned.Goals as goal

pub returns : goal.returns
returns g c =
    let e = wrap-kept_at g.T.Storage.SIGNED false g.row.BITS _ _ _ g.met.T.UnsignedStorage.unsigned_law (c.value.ensures.width.0) c.value.ensures.self_in_range c.value.ensures.number c.new.ensures in
    let k = wrapped-congruent false g.row.BITS _ _ e in
    record { value = e; congruent = k; self_in_range = c.value.ensures.self_in_range }
