use Rattle.std.specs.Prelude.{◌≡◌, pos, reverse, ℤ}
use Rattle.std.proofs.Common.{sym, ◌∙◌, subst}
use Rattle.arbitrary_base.specs.BitList.{bits, num, val}
use Rattle.arbitrary_base.proofs.bit_lists.ResultOfPattern.{reverse-value}
use Rattle.arbitrary_base.proofs.modular.Inverse.{reverse-undoes}
use Rattle.arbitrary_base.proofs.operations.Definition.{reversed-is}
use Rattle.arbitrary_calls.proofs.calls.shifts.ShiftCalls.reverse_bits.Goals as goal

pub returns : goal.returns
returns g c =
    let q : c.reverse_bits.result ≡ num (reverse (bits g.Self.Numbered.BITS (pos c.low_bits.result))) = cc in
    let e = reverse-value g.Self.Numbered.IS_SIGNED g.Self.Numbered.BITS _ _ _ _ c.low_bits.ensures.value q c.from_u128_bits.ensures.value in
    record {
      operation = e ∙ sym (reversed-is _ _ _);
      value = λ y d. subst (λ (y : ℤ). g.Self.Numbered.number c.from_u128_bits.result ≡ val g.Self.Numbered.IS_SIGNED (reverse (bits g.Self.Numbered.BITS y))) d e;
      undo = reverse-undoes _ _ _ _ _ c.low_bits.ensures.some c.low_bits.ensures.self_in_range e (reversed-is _ _ _);
      self_in_range = c.low_bits.ensures.self_in_range;
      width = c.low_bits.ensures.width;
    }
