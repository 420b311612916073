use Rattle.std.proofs.Common.{ap, ◌∙◌, sym}
use Rattle.std.specs.Prelude.{map, not}
use Rattle.arbitrary_base.specs.BitList.{bits}
use Rattle.arbitrary_base.proofs.bit_lists.StdBitwise.{not-signed}
use Rattle.arbitrary_base.proofs.bit_lists.UnsignedNumber.{length-bits, length-not}
use Rattle.arbitrary_core.proofs.StoredBits.{bits-stays, number-of_list}
use Rattle.arbitrary_base.proofs.operations.Definition.{not-is, of-bits}
use Rattle.arbitrary_core.proofs.bitwise.signed.IntNot.not.Goals as goal

pub returns : goal.returns
returns g c =
    let w = c.to_bits.ensures.width.0 in
    let p = bits-stays g.row.BITS c.args.self _ c.to_bits.ensures.value in
    let n = length-not (bits g.row.BITS c.args.self) ∙ length-bits g.row.BITS c.args.self in
    let e = number-of_list g.T.Storage.SIGNED g.U.Storage.SIGNED g.row.BITS _ _ _ _ w n (ap (map not) p) c.not.ensures.value c.from_bits.ensures.number in
    record {
      operation = e ∙ sym (not-is _ _ _);
      bits = e;
      self_from_bits = sym (of-bits _ _ _ c.to_bits.ensures.width.0 c.to_bits.ensures.self_in_range);
      number = not-signed _ _ _ _ g.met.T.SignedStorage.signed_law w c.to_bits.ensures.self_in_range e;
    }
