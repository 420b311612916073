use Rattle.std.specs.Prelude.{◌≡◌, Bool, ◌<◌, ◌%◌, ℤ}
use Rattle.std.proofs.Common.{arith, ap, subst, sym, ◌∙◌}
use Rattle.arbitrary_base.specs.Range.{InRange}
use Rattle.arbitrary_base.specs.Residue.{Congruent}
use Rattle.arbitrary_base.specs.Operation.{shifted_left}
use Rattle.arbitrary_base.specs.BitList.{bits, val, shl}
use Rattle.arbitrary_base.proofs.operations.ShiftAsProduct.{shl-congruent, shl-stays, shl-plain}
use Rattle.arbitrary_base.proofs.operations.Definition.{left-is}
use Rattle.arbitrary_base.proofs.operations.Shift.{shifted_left-none}
use Rattle.arbitrary_calls.proofs.calls.shifts.ShiftCalls.wrapping_shl.Goals as goal

pub returns : goal.returns
returns g c =
    let t = g.met.Self.Stored.sign_law in
    let o = c.to_storage-storage.ensures.some in
    let l : c.args.amount % g.Self.Numbered.BITS < g.Self.Numbered.BITS = omega arith in
    let r = subst (λ (s : Bool). InRange s g.Self.Numbered.BITS (g.Self.Numbered.number c.args.self)) t c.to_storage-storage.ensures.self_in_range in
    let e : g.Self.Numbered.number c.from_storage.result ≡ val g.Self.Numbered.IS_SIGNED (shl (bits g.Self.Numbered.BITS (g.Self.Numbered.number c.args.self)) (c.args.amount % g.Self.Numbered.BITS)) = cc in
    record {
      operation = e ∙ sym (left-is _ _ _ _);
      value = λ y d. subst (λ (y : ℤ). g.Self.Numbered.number c.from_storage.result ≡ val g.Self.Numbered.IS_SIGNED (shl (bits g.Self.Numbered.BITS y) (c.args.amount % g.Self.Numbered.BITS))) d e;
      plain = λ d. shl-plain _ _ _ _ _ d o l r e;
      exact = λ f. shl-stays _ _ _ _ _ o l f e;
      congruent = λ y d. subst (Congruent g.Self.Numbered.BITS (g.Self.Numbered.number c.from_storage.result)) (sym d) (shl-congruent _ _ _ _ _ o l e);
      none = λ z. e ∙ sym (left-is _ _ _ _) ∙ ap (shifted_left g.Self.Numbered.IS_SIGNED g.Self.Numbered.BITS _) z ∙ shifted_left-none _ _ _ o r;
      self_in_range = r;
      width = c.to_storage-storage.ensures.width;
    }
