use Rattle.std.specs.Prelude.{◌≡◌, pos, ◌%◌, ◌≤◌, ℤ}
use Rattle.std.proofs.Common.{ap, arith, sym, ◌∙◌, subst}
use Rattle.arbitrary_base.specs.BitList.{bits, num, val}
use Rattle.arbitrary_base.proofs.bit_lists.Movement.{rotr}
use Rattle.arbitrary_base.specs.Operation.{rotated_right}
use Rattle.arbitrary_base.proofs.bit_lists.ResultOfPattern.{rotr-value}
use Rattle.arbitrary_base.proofs.modular.Inverse.{rotl-undoes}
use Rattle.arbitrary_base.proofs.operations.Definition.{rotl-is, rotr-is}
use Rattle.arbitrary_base.proofs.operations.RotateAndReverse.{rotated_right-none}
use Rattle.arbitrary_calls.proofs.calls.shifts.ShiftCalls.rotate_right.Goals as goal

pub returns : goal.returns
returns g c =
    let o = c.low_bits.ensures.some in
    let l : c.args.amount % g.Self.Numbered.BITS ≤ g.Self.Numbered.BITS = omega arith in
    let q : c.rotate_right.result ≡ num (rotr (bits g.Self.Numbered.BITS (pos c.low_bits.result)) (c.args.amount % g.Self.Numbered.BITS)) = cc in
    let e = rotr-value g.Self.Numbered.IS_SIGNED g.Self.Numbered.BITS _ _ (c.args.amount % g.Self.Numbered.BITS) _ _ c.low_bits.ensures.value q c.from_u128_bits.ensures.value in
    record {
      operation = e ∙ sym (rotr-is _ _ _ _);
      value = λ y d. subst (λ (y : ℤ). g.Self.Numbered.number c.from_u128_bits.result ≡ val g.Self.Numbered.IS_SIGNED (rotr (bits g.Self.Numbered.BITS y) (c.args.amount % g.Self.Numbered.BITS))) d e;
      undo = rotl-undoes _ _ (c.args.amount % g.Self.Numbered.BITS) _ _ _ o l c.low_bits.ensures.self_in_range e (rotl-is _ _ _ _);
      round = λ z. e ∙ sym (rotr-is _ _ _ _) ∙ ap (rotated_right g.Self.Numbered.IS_SIGNED g.Self.Numbered.BITS _) z ∙ rotated_right-none _ _ _ o c.low_bits.ensures.self_in_range;
      self_in_range = c.low_bits.ensures.self_in_range;
      width = c.low_bits.ensures.width;
    }
