use Rattle.std.proofs.Common.{arith}
use Rattle.arbitrary_calls.proofs.low_bits.UIntLowBits.low_bits.Goals as goal

pub low_bits_in_range-requires : goal.low_bits_in_range-requires
low_bits_in_range-requires g c =
    let v = c.value.ensures in
    record { width = v.width.0; storage = v.width.1; x_in_range = rw v.number v.self_in_range }

pub returns : goal.returns
returns g c =
    let v = c.value.ensures in
    let l = c.low_bits_in_range.ensures in
    record {
      value = rw (← v.number) l.value;
      fits = l.fits;
      self_in_range = v.self_in_range;
      width = v.width;
      some = v.width.0;
      high = omega (arith, v.width, g.met.T.Storage.width_law);
    }
