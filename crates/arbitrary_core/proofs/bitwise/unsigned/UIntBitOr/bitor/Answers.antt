use Rattle.std.proofs.Common.{sym, ◌∙◌}
use Rattle.arbitrary_base.specs.BitList.{bits, val, bits_or}
use Rattle.arbitrary_base.proofs.bit_lists.StdBitwise.{or-plain, not_below_zero}
use Rattle.arbitrary_base.proofs.operations.BitsAndSums.{or-keeps}
use Rattle.arbitrary_base.proofs.operations.Bitwise.{bitwise_or-commutes}
use Rattle.arbitrary_base.proofs.operations.Definition.{or-is, of-bits}
use Rattle.arbitrary_core.proofs.Results.{of_numbers}
use Rattle.arbitrary_core.proofs.bitwise.unsigned.UIntBitOr.bitor.Goals as goal

pub returns : goal.returns
returns g c =
    let u = g.met.T.UnsignedStorage.unsigned_law in
    let w = c.value.ensures.width.0 in
    let x = c.value.ensures.self_in_range in
    let y = c.value-2.ensures.self_in_range in
    let a = not_below_zero _ _ _ u x in
    let b = not_below_zero _ _ _ u y in
    let e = of_numbers (λ x y. val g.T.Storage.SIGNED (bits_or (bits g.row.BITS x) (bits g.row.BITS y))) c.value.ensures.number c.value-2.ensures.number c.or.ensures.value c.new.ensures in
    record {
      operation = e ∙ sym (or-is _ _ _ _);
      bits = e;
      operands_from_bits = (sym (of-bits _ _ _ c.value.ensures.width.0 c.value.ensures.self_in_range), sym (of-bits _ _ _ c.value-2.ensures.width.0 c.value-2.ensures.self_in_range));
      plain = or-plain _ _ _ _ _ w x y e a b;
      at_least_self = or-keeps _ _ _ _ _ u w x (e ∙ sym (or-is _ _ _ _));
      at_least_rhs = or-keeps _ _ _ _ _ u w y (e ∙ sym (or-is _ _ _ _) ∙ bitwise_or-commutes _ _ _ _);
    }
