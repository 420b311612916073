use Rattle.std.proofs.Common.{sym, ◌∙◌}
use Rattle.arbitrary_base.specs.BitList.{bits, val, bits_and}
use Rattle.arbitrary_base.proofs.bit_lists.StdBitwise.{and-plain, and-left, and-right, not_below_zero}
use Rattle.arbitrary_base.proofs.operations.Definition.{and-is, of-bits}
use Rattle.arbitrary_core.proofs.Results.{of_numbers}
use Rattle.arbitrary_core.proofs.bitwise.unsigned.UIntBitAnd.bitand.Goals as goal

pub returns : goal.returns
returns g c =
    let u = g.met.T.UnsignedStorage.unsigned_law in
    let w = c.value.ensures.width.0 in
    let x = c.value.ensures.self_in_range in
    let y = c.value-2.ensures.self_in_range in
    let a = not_below_zero _ _ _ u x in
    let b = not_below_zero _ _ _ u y in
    let e = of_numbers (λ x y. val g.T.Storage.SIGNED (bits_and (bits g.row.BITS x) (bits g.row.BITS y))) c.value.ensures.number c.value-2.ensures.number c.and.ensures.value c.new.ensures in
    record {
      operation = e ∙ sym (and-is _ _ _ _);
      bits = e;
      operands_from_bits = (sym (of-bits _ _ _ c.value.ensures.width.0 c.value.ensures.self_in_range), sym (of-bits _ _ _ c.value-2.ensures.width.0 c.value-2.ensures.self_in_range));
      plain = and-plain _ _ _ _ _ w x y e a b;
      at_most_self = (and-left _ _ _ _ _ w x e a).1;
      at_most_rhs = (and-right _ _ _ _ _ w y e b).1;
    }
