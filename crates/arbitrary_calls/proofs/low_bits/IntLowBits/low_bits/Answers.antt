use Rattle.std.proofs.Common.{arith, ap, ◌∙◌}
use Rattle.arbitrary_base.specs.Residue.{residue}
use Rattle.arbitrary_base.proofs.storages.Primitive.{residue-pos}
use Rattle.arbitrary_base.proofs.modular.Residue.{residue-lt}
use Rattle.arbitrary_calls.proofs.low_bits.IntLowBits.low_bits.Goals as goal

pub low_bits_in_range-requires : goal.low_bits_in_range-requires
low_bits_in_range-requires g c =
    let b = c.to_bits.ensures in
    record { width = b.width.0; storage = omega (arith, b.width, g.met.U.UnsignedOf.unsigned_width_law); x_in_range = b.result_in_range }

pub returns : goal.returns
returns g c =
    let b = c.to_bits.ensures in
    let l = c.low_bits_in_range.ensures in
    record {
      value = l.value ∙ ap (residue g.row.BITS) b.value ∙ residue-pos g.row.BITS _ (residue-lt g.row.BITS c.args.self);
      fits = l.fits;
      self_in_range = b.self_in_range;
      width = b.width;
      some = b.width.0;
      high = omega (arith, b.width, g.met.T.Storage.width_law);
    }
