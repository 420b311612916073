use Rattle.std.proofs.Common.{sym}
use Rattle.arbitrary_base.proofs.bit_lists.StdBitwise.{not_below_zero}
use Rattle.arbitrary_core.proofs.radix.unsigned.UIntUpperHex.fmt.Goals as goal

pub returns : goal.returns
returns g c =
    let natural = not_below_zero _ _ _ g.met.T.UnsignedStorage.unsigned_law c.value.ensures.self_in_range in
    rw (sym c.value.ensures.number) (record {
      pattern = c.upper_hex.ensures.pattern;
      natural = λ w. c.upper_hex.ensures.natural w (rw c.value.ensures.number natural);
    })
