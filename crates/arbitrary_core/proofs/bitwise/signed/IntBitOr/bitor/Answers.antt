use Rattle.std.specs.Int.Bits.{bit_or}
use Rattle.std.proofs.Common.{◌∙◌, sym}
use Rattle.arbitrary_base.specs.BitList.{bits_or}
use Rattle.arbitrary_base.proofs.bit_lists.StdBitwise.{or-plain}
use Rattle.arbitrary_base.proofs.bit_lists.UnsignedNumber.{length-bits, same_length, length-or}
use Rattle.arbitrary_core.proofs.Naturals.{naturals}
use Rattle.arbitrary_core.proofs.StoredBits.{bits-stays, number-of_list}
use Rattle.arbitrary_base.proofs.operations.Definition.{or-is, of-bits}
use Rattle.arbitrary_core.proofs.bitwise.signed.IntBitOr.bitor.Goals as goal

pub returns : goal.returns
returns g c =
    let w = c.to_bits.ensures.width.0 in
    let x = c.to_bits.ensures.self_in_range in
    let y = c.to_bits-2.ensures.self_in_range in
    let p = bits-stays g.row.BITS c.args.self _ c.to_bits.ensures.value in
    let q = bits-stays g.row.BITS c.args.rhs _ c.to_bits-2.ensures.value in
    let n = length-or _ _ (same_length g.row.BITS c.args.self c.args.rhs) ∙ length-bits g.row.BITS c.args.self in
    let e = number-of_list g.T.Storage.SIGNED g.U.Storage.SIGNED g.row.BITS _ _ _ _ w n (λ i. bits_or (p i) (q i)) c.or.ensures.value c.from_bits.ensures.number in
    record {
      operation = e ∙ sym (or-is _ _ _ _);
      bits = e;
      operands_from_bits = (sym (of-bits _ _ _ c.to_bits.ensures.width.0 c.to_bits.ensures.self_in_range), sym (of-bits _ _ _ c.to_bits-2.ensures.width.0 c.to_bits-2.ensures.self_in_range));
      plain = naturals bit_or _ _ _ (or-plain _ _ _ _ _ w x y e);
    }
