use Rattle.std.specs.Prelude.{◌≡◌, Bool, ℤ, pos, ◌<◌, ◌%◌, ◌^◌, ◌<ℤ◌, ◌+ℤ◌, ◌*ℤ◌}
use Rattle.std.proofs.Common.{arith, ap, subst, sym, ◌∙◌}
use Rattle.arbitrary_base.specs.Range.{InRange}
use Rattle.arbitrary_base.specs.Operation.{shifted_right}
use Rattle.arbitrary_base.specs.BitList.{bits, val, fill, shr}
use Rattle.arbitrary_base.proofs.operations.ShiftAsProduct.{shr-high, shr-low, shr-quotient, shr-range}
use Rattle.arbitrary_base.proofs.operations.Definition.{right-is}
use Rattle.arbitrary_base.proofs.operations.Shift.{shifted_right-none}
use Rattle.arbitrary_calls.proofs.calls.shifts.ShiftCalls.wrapping_shr.Goals as goal

pub returns : goal.returns
returns g c =
    let t = g.met.Self.Stored.sign_law in
    let o = c.to_storage-storage.ensures.some in
    let l : c.args.amount % g.Self.Numbered.BITS < g.Self.Numbered.BITS = omega arith in
    let r = subst (λ (s : Bool). InRange s g.Self.Numbered.BITS (g.Self.Numbered.number c.args.self)) t c.to_storage-storage.ensures.self_in_range in
    let e : g.Self.Numbered.number c.from_storage.result ≡ val g.Self.Numbered.IS_SIGNED (shr (bits g.Self.Numbered.BITS (g.Self.Numbered.number c.args.self)) (c.args.amount % g.Self.Numbered.BITS) (fill g.Self.Numbered.IS_SIGNED (bits g.Self.Numbered.BITS (g.Self.Numbered.number c.args.self)))) = cc in
    record {
      operation = e ∙ sym (right-is _ _ _ _);
      value = λ y d. subst (λ (y : ℤ). g.Self.Numbered.number c.from_storage.result ≡ val g.Self.Numbered.IS_SIGNED (shr (bits g.Self.Numbered.BITS y) (c.args.amount % g.Self.Numbered.BITS) (fill g.Self.Numbered.IS_SIGNED (bits g.Self.Numbered.BITS y)))) d e;
      quotient = λ d. shr-quotient _ _ _ _ _ d o l r e;
      low = shr-low _ _ _ _ _ o l r e;
      high = λ y d. subst (λ (x : ℤ). x <ℤ (g.Self.Numbered.number c.from_storage.result *ℤ pos (2 ^ (c.args.amount % g.Self.Numbered.BITS)) +ℤ pos (2 ^ (c.args.amount % g.Self.Numbered.BITS)))) d (shr-high _ _ _ _ _ o l r e);
      result_in_range = shr-range _ _ _ _ _ o l r e;
      none = λ z. e ∙ sym (right-is _ _ _ _) ∙ ap (shifted_right g.Self.Numbered.IS_SIGNED g.Self.Numbered.BITS _) z ∙ shifted_right-none _ _ _ o r;
      self_in_range = r;
      width = c.to_storage-storage.ensures.width;
    }
