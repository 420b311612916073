use Rattle.std.proofs.Common.{arith, ap, refl, sym, ◌∙◌, ◌≡◌}
use Rattle.std.proofs.lemmas.Bool.{true≢false}
use Rattle.arbitrary_base.specs.BitList.{bits, val, shl}
use Rattle.arbitrary_base.specs.Operation.{shifted_left}
use Rattle.arbitrary_base.proofs.operations.Definition.{left-is}
use Rattle.arbitrary_base.proofs.operations.Shift.{shifted_left-none}
use Rattle.arbitrary_base.proofs.operations.ShiftAsProduct.{shl-congruent, shl-plain}
use Rattle.arbitrary_calls.proofs.calls.shifts.ShiftCalls.checked_shl.Goals as goal

pub shl-requires : goal.shl-requires
shl-requires g c =
    let s = c.to_storage-storage.ensures in
    rw c.BITS-then-amount-BITS.ensures (record { width = s.some; storage = s.storage; within = rw (← c.BITS.ensures) c.if-amount-BITS.true })

pub from_storage-requires : goal.from_storage-requires
from_storage-requires g c = record { some = c.to_storage-storage.ensures.some; storage = c.to_storage-storage.ensures.storage; value_in_range = rw (← c.BITS-then-amount-BITS.ensures) c.shl.ensures.result_in_range }

pub returns-then-amount-BITS : goal.returns-then-amount-BITS
returns-then-amount-BITS g c =
    let t = g.met.Self.Stored.sign_law in
    let o = c.to_storage-storage.ensures.some in
    let l = rw c.BITS.ensures at c.if-amount-BITS.true in
    let r = rw t at c.to_storage-storage.ensures.self_in_range in
    let e : g.Self.Numbered.number c.from_storage.result ≡ val g.Self.Numbered.IS_SIGNED (shl (bits g.Self.Numbered.BITS (g.Self.Numbered.number c.args.self)) c.args.amount) = rw (c.from_storage.ensures, ← t, ← c.BITS-then-amount-BITS.ensures, ← c.to_storage-storage.ensures.number) c.shl.ensures.value in
    record {
      refused = (λ n. absurd (true≢false n), λ n. absurd (omega arith));
      operation = e ∙ sym (left-is _ _ _ _);
      value = e;
      plain = λ d. shl-plain _ _ _ _ _ d o l r e;
      congruent = shl-congruent _ _ _ _ _ o l e;
      none = λ z. e ∙ sym (left-is _ _ _ _) ∙ ap (shifted_left g.Self.Numbered.IS_SIGNED g.Self.Numbered.BITS _) z ∙ shifted_left-none _ _ _ o r;
      self_in_range = r;
      width = c.to_storage-storage.ensures.width;
    }

pub returns-else-amount-BITS : goal.returns-else-amount-BITS
returns-else-amount-BITS g c = record {
  refused = (λ n. rw (← c.BITS.ensures) c.if-amount-BITS.false, λ n. refl);
  operation = tt;
  value = tt;
  plain = λ d. tt;
  congruent = tt;
  none = λ z. tt;
  self_in_range = rw (← g.met.Self.Stored.sign_law) c.to_storage-storage.ensures.self_in_range;
  width = c.to_storage-storage.ensures.width;
}
