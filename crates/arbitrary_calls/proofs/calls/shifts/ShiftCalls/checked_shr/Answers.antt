use Rattle.std.proofs.Common.{arith, ap, refl, sym, ◌∙◌, ◌≡◌}
use Rattle.std.proofs.lemmas.Bool.{true≢false}
use Rattle.arbitrary_base.specs.BitList.{bits, val, fill, shr}
use Rattle.arbitrary_base.specs.Operation.{shifted_right}
use Rattle.arbitrary_base.proofs.operations.Definition.{right-is}
use Rattle.arbitrary_base.proofs.operations.Shift.{shifted_right-none}
use Rattle.arbitrary_base.proofs.operations.ShiftAsProduct.{shr-high, shr-low, shr-quotient, shr-range}
use Rattle.arbitrary_calls.proofs.calls.shifts.ShiftCalls.checked_shr.Goals as goal

pub shr-requires : goal.shr-requires
shr-requires g c =
    let s = c.to_storage-storage.ensures in
    rw c.BITS-then-amount-BITS.ensures (record { width = s.some; storage = s.storage; within = rw (← c.BITS.ensures) c.if-amount-BITS.true })

pub from_storage-requires : goal.from_storage-requires
from_storage-requires g c = record { some = c.to_storage-storage.ensures.some; storage = c.to_storage-storage.ensures.storage; value_in_range = rw (← c.BITS-then-amount-BITS.ensures) c.shr.ensures.result_in_range }

pub returns-then-amount-BITS : goal.returns-then-amount-BITS
returns-then-amount-BITS g c =
    let t = g.met.Self.Stored.sign_law in
    let o = c.to_storage-storage.ensures.some in
    let l = rw c.BITS.ensures at c.if-amount-BITS.true in
    let r = rw t at c.to_storage-storage.ensures.self_in_range in
    let e : g.Self.Numbered.number c.from_storage.result ≡ val g.Self.Numbered.IS_SIGNED (shr (bits g.Self.Numbered.BITS (g.Self.Numbered.number c.args.self)) c.args.amount (fill g.Self.Numbered.IS_SIGNED (bits g.Self.Numbered.BITS (g.Self.Numbered.number c.args.self)))) = rw (c.from_storage.ensures, ← t, ← c.BITS-then-amount-BITS.ensures, ← c.to_storage-storage.ensures.number) c.shr.ensures.value in
    record {
      refused = (λ n. absurd (true≢false n), λ n. absurd (omega arith));
      operation = e ∙ sym (right-is _ _ _ _);
      value = e;
      quotient = λ d. shr-quotient _ _ _ _ _ d o l r e;
      low = shr-low _ _ _ _ _ o l r e;
      high = shr-high _ _ _ _ _ o l r e;
      result_in_range = shr-range _ _ _ _ _ o l r e;
      none = λ z. e ∙ sym (right-is _ _ _ _) ∙ ap (shifted_right g.Self.Numbered.IS_SIGNED g.Self.Numbered.BITS _) z ∙ shifted_right-none _ _ _ o r;
      self_in_range = r;
      width = c.to_storage-storage.ensures.width;
    }

pub returns-else-amount-BITS : goal.returns-else-amount-BITS
returns-else-amount-BITS g c = record {
  refused = (λ n. rw (← c.BITS.ensures) c.if-amount-BITS.false, λ n. refl);
  operation = tt;
  value = tt;
  quotient = λ d. tt;
  low = tt;
  high = tt;
  result_in_range = tt;
  none = λ z. tt;
  self_in_range = rw (← g.met.Self.Stored.sign_law) c.to_storage-storage.ensures.self_in_range;
  width = c.to_storage-storage.ensures.width;
}
