use Rattle.std.proofs.Common.{rules, ◌∙◌}
use Rattle.arbitrary_int.proofs.EndBits.{bits-fit, greatest-number, least-number, zero-number}
use Rattle.arbitrary_int.proofs.constants.signed.of_bits.Goals as goal

pub from_bits-requires : goal.from_bits-requires
from_bits-requires g c =
    let fits = bits-fit _ g.row.BITS _ g.met.U.UnsignedStorage.unsigned_law (c.requires.width.0) c.requires.low c.requires.high in
    search rules

pub returns : goal.returns
returns g c =
    let s = g.met.T.SignedStorage.signed_law in
    let w = c.requires.width.0 in
    record {
      zero = λ e. c.from_bits.ensures.number ∙ zero-number _ g.row.BITS _ s w e;
      least = λ e. c.from_bits.ensures.number ∙ least-number _ g.row.BITS _ s w e;
      greatest = λ e. c.from_bits.ensures.number ∙ greatest-number _ g.row.BITS _ s w e;
    }
