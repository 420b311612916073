use Rattle.std.specs.Int.Bits.{bit_and}
use Rattle.std.proofs.Common.{◌∙◌, sym}
use Rattle.arbitrary_base.specs.BitList.{bits_and}
use Rattle.arbitrary_base.proofs.bit_lists.StdBitwise.{and-plain, and-left, and-right}
use Rattle.arbitrary_base.proofs.bit_lists.UnsignedNumber.{length-bits, same_length, length-and}
use Rattle.arbitrary_core.proofs.Naturals.{at_most, naturals}
use Rattle.arbitrary_core.proofs.StoredBits.{bits-stays, number-of_list}
use Rattle.arbitrary_base.proofs.operations.Definition.{and-is, of-bits}
use Rattle.arbitrary_base.proofs.operations.KnownMask.{and-by_one}
use Rattle.arbitrary_core.proofs.bitwise.signed.IntBitAnd.bitand.Goals as goal

pub returns : goal.returns
returns g c =
    let w = c.to_bits.ensures.width.0 in
    let x = c.to_bits.ensures.self_in_range in
    let y = c.to_bits-2.ensures.self_in_range in
    let p = bits-stays g.row.BITS c.args.self _ c.to_bits.ensures.value in
    let q = bits-stays g.row.BITS c.args.rhs _ c.to_bits-2.ensures.value in
    let n = length-and _ _ (same_length g.row.BITS c.args.self c.args.rhs) ∙ length-bits g.row.BITS c.args.self in
    let e = number-of_list g.T.Storage.SIGNED g.U.Storage.SIGNED g.row.BITS _ _ _ _ w n (λ i. bits_and (p i) (q i)) c.and.ensures.value c.from_bits.ensures.number in
    record {
      operation = e ∙ sym (and-is _ _ _ _);
      bits = e;
      operands_from_bits = (sym (of-bits _ _ _ c.to_bits.ensures.width.0 c.to_bits.ensures.self_in_range), sym (of-bits _ _ _ c.to_bits-2.ensures.width.0 c.to_bits-2.ensures.self_in_range));
      plain = naturals bit_and _ _ _ (and-plain _ _ _ _ _ w x y e);
      at_most_self = at_most _ _ (and-left _ _ _ _ _ w x e);
      at_most_rhs = at_most _ _ (and-right _ _ _ _ _ w y e);
      lowest = λ d. and-by_one _ _ _ _ _ w y (e ∙ sym (and-is _ _ _ _)) d;
    }
