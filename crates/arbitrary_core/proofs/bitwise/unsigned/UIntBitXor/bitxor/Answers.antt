use Rattle.std.proofs.Common.{sym, ◌∙◌}
use Rattle.arbitrary_base.specs.BitList.{bits, val, bits_xor}
use Rattle.arbitrary_base.proofs.bit_lists.StdBitwise.{xor-plain, xor-same, not_below_zero}
use Rattle.arbitrary_base.proofs.modular.Inverse.{xor-undoes}
use Rattle.arbitrary_base.proofs.operations.Definition.{xor-is, of-bits}
use Rattle.arbitrary_core.proofs.Results.{of_numbers}
use Rattle.arbitrary_core.proofs.bitwise.unsigned.UIntBitXor.bitxor.Goals as goal

pub returns : goal.returns
returns g c =
    let u = g.met.T.UnsignedStorage.unsigned_law in
    let w = c.value.ensures.width.0 in
    let x = c.value.ensures.self_in_range in
    let y = c.value-2.ensures.self_in_range in
    let a = not_below_zero _ _ _ u x in
    let b = not_below_zero _ _ _ u y in
    let e = of_numbers (λ x y. val g.T.Storage.SIGNED (bits_xor (bits g.row.BITS x) (bits g.row.BITS y))) c.value.ensures.number c.value-2.ensures.number c.xor.ensures.value c.new.ensures in
    record {
      operation = e ∙ sym (xor-is _ _ _ _);
      bits = e;
      operands_from_bits = (sym (of-bits _ _ _ c.value.ensures.width.0 c.value.ensures.self_in_range), sym (of-bits _ _ _ c.value-2.ensures.width.0 c.value-2.ensures.self_in_range));
      plain = xor-plain _ _ _ _ _ w x y e a b;
      same = xor-same _ _ _ _ _ w e;
      undo = xor-undoes _ _ _ c.args.rhs _ _ w x e (xor-is _ _ _ _);
    }
