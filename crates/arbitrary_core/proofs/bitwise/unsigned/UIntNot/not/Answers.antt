use Rattle.std.specs.Prelude.{map, not}
use Rattle.std.proofs.Common.{sym, ◌∙◌}
use Rattle.arbitrary_base.specs.BitList.{bits, val}
use Rattle.arbitrary_base.proofs.bit_lists.StdBitwise.{not-unsigned}
use Rattle.arbitrary_base.proofs.operations.Definition.{not-is, of-bits}
use Rattle.arbitrary_core.proofs.Results.{of_number}
use Rattle.arbitrary_core.proofs.bitwise.unsigned.UIntNot.not.Goals as goal

pub returns : goal.returns
returns g c =
    let e = of_number (λ x. val g.T.Storage.SIGNED (map not (bits g.row.BITS x))) c.value.ensures.number c.not.ensures.value c.new.ensures in
    record {
      operation = e ∙ sym (not-is _ _ _);
      bits = e;
      self_from_bits = sym (of-bits _ _ _ c.value.ensures.width.0 c.value.ensures.self_in_range);
      number = not-unsigned _ _ _ _ g.met.T.UnsignedStorage.unsigned_law c.value.ensures.width.0 c.value.ensures.self_in_range e;
    }
