use Rattle.std.proofs.Common.{le_trans}
use Rattle.arbitrary_base.proofs.operations.PowerAndQuotient.{to_u128_bits-undone}
use Rattle.arbitrary_core.proofs.StoredBits.{wrapped-twice}
use Rattle.arbitrary_core.proofs.integer.signed.IntNumbered.from_u128_bits.Goals as goal

pub returns : goal.returns
returns g c =
    let e = wrapped-twice g.T.Storage.SIGNED g.U.Storage.SIGNED g.row.BITS _ _ _ (c.requires.0) c.from_low_bits.ensures.value c.from_bits.ensures.number in
    record {
      value = e;
      undo = λ y f d. to_u128_bits-undone g.T.Storage.SIGNED g.row.BITS _ _ y (c.requires.0) (le_trans c.requires.1 (g.met.T.Storage.width_law.1)) f d e;
    }
