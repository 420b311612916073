use Rattle.std.specs.Prelude.{◌≡◌, pos, ◌%◌, ◌≤◌, ℤ}
use Rattle.std.specs.List.{slice_rotate_right}
use Rattle.std.proofs.Common.{ap, arith, sym, ◌∙◌, subst}
use Rattle.arbitrary_base.specs.BitList.{bits, num, val}
use Rattle.arbitrary_base.specs.Operation.{rotated_left}
use Rattle.arbitrary_base.proofs.bit_lists.ResultOfPattern.{rotl-value}
use Rattle.arbitrary_base.proofs.modular.Inverse.{rotr-undoes}
use Rattle.arbitrary_base.proofs.operations.Definition.{rotl-is, rotr-is}
use Rattle.arbitrary_base.proofs.operations.RotateAndReverse.{rotated_left-none}
use Rattle.arbitrary_calls.proofs.calls.shifts.ShiftCalls.rotate_left.Goals as goal

pub returns : goal.returns
returns g c =
    let o = c.low_bits.ensures.some in
    let l : c.args.amount % g.Self.Numbered.BITS ≤ g.Self.Numbered.BITS = omega arith in
    let q : c.rotate_left.result ≡ num (slice_rotate_right (bits g.Self.Numbered.BITS (pos c.low_bits.result)) (c.args.amount % g.Self.Numbered.BITS)) = cc in
    let e = rotl-value g.Self.Numbered.IS_SIGNED g.Self.Numbered.BITS _ _ (c.args.amount % g.Self.Numbered.BITS) _ _ c.low_bits.ensures.value q c.from_u128_bits.ensures.value in
    record {
      operation = e ∙ sym (rotl-is _ _ _ _);
      value = λ y d. subst (λ (y : ℤ). g.Self.Numbered.number c.from_u128_bits.result ≡ val g.Self.Numbered.IS_SIGNED (slice_rotate_right (bits g.Self.Numbered.BITS y) (c.args.amount % g.Self.Numbered.BITS))) d e;
      undo = rotr-undoes _ _ (c.args.amount % g.Self.Numbered.BITS) _ _ _ o l c.low_bits.ensures.self_in_range e (rotr-is _ _ _ _);
      round = λ z. e ∙ sym (rotl-is _ _ _ _) ∙ ap (rotated_left g.Self.Numbered.IS_SIGNED g.Self.Numbered.BITS _) z ∙ rotated_left-none _ _ _ o c.low_bits.ensures.self_in_range;
      self_in_range = c.low_bits.ensures.self_in_range;
      width = c.low_bits.ensures.width;
    }
