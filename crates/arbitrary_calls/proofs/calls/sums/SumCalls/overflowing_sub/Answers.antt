use Rattle.std.proofs.Common.{sym, ◌∙◌}
use Rattle.arbitrary_base.proofs.LawProof.{out-of_range_tested}
use Rattle.arbitrary_base.proofs.modular.ExactOrCongruent.{wrapped-congruent, wrapped-exact}
use Rattle.arbitrary_base.proofs.operations.Definition.{difference-is}
use Rattle.arbitrary_calls.proofs.calls.sums.SumCalls.overflowing_sub.Goals as goal

pub sub-difference-requires : goal.sub-difference-requires
sub-difference-requires g c =
    let s = c.to_storage.ensures in let r = c.to_storage-2.ensures in
    rw c.BITS.ensures (record { width = s.some; storage = s.storage; x_in_range = rw s.number s.self_in_range; y_in_range = rw r.number r.self_in_range })

pub returns : goal.returns
returns g c =
    let t = g.met.Self.Stored.sign_law in
    let m = rw (t, c.BITS.ensures, c.to_storage.ensures.number, c.to_storage-2.ensures.number) at c.sub-difference.ensures in
    let e = c.from_storage.ensures ∙ m.value in
    record {
      operation = e ∙ sym (difference-is _ _ _ _);
      value = e;
      overflow = m.overflow;
      flag = out-of_range_tested _ _ _ _ m.overflow;
      exact = λ f. wrapped-exact _ _ _ _ c.to_storage.ensures.some f e;
      congruent = wrapped-congruent _ _ _ _ e;
      self_in_range = rw (← t) c.to_storage.ensures.self_in_range;
      rhs_in_range = rw (← t) c.to_storage-2.ensures.self_in_range;
      width = c.to_storage.ensures.width;
    }
