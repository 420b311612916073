use Rattle.std.specs.Prelude.{false}
use Rattle.arbitrary_base.proofs.modular.ExactOrCongruent.{wrapped-congruent}
use Rattle.arbitrary_core.proofs.Counterpart.{wrap-bits}
use Rattle.arbitrary_core.proofs.integer.signed.IntInteger.to_unsigned.Goals as goal

pub returns : goal.returns
returns g c =
    let e = wrap-bits g.row.BITS _ _ _ (c.to_bits.ensures.width.0) c.to_bits.ensures.value c.new.ensures in
    let k = wrapped-congruent false g.row.BITS _ _ e in
    record { value = e; congruent = k; self_in_range = c.to_bits.ensures.self_in_range }
