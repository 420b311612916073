use Rattle.std.proofs.Common.{sym, ◌∙◌}
use Rattle.arbitrary_base.proofs.modular.Inverse.{add-undoes}
use Rattle.arbitrary_base.proofs.modular.ExactOrCongruent.{wrapped-congruent, wrapped-exact}
use Rattle.arbitrary_base.proofs.operations.Definition.{difference-is, sum-is}
use Rattle.arbitrary_calls.proofs.calls.sums.SumCalls.wrapping_sub.Goals as goal

pub returns : goal.returns
returns g c =
    let o = c.to_storage.ensures.some in
    let t = g.met.Self.Stored.sign_law in
    let m = rw (t, c.BITS.ensures, c.to_storage.ensures.number, c.to_storage-2.ensures.number) at c.sub.ensures in
    let e = c.from_storage.ensures ∙ m.value in
    let r = rw t at c.to_storage.ensures.self_in_range in
    record {
      operation = e ∙ sym (difference-is _ _ _ _);
      value = e;
      exact = λ f. wrapped-exact _ _ _ _ o f e;
      congruent = wrapped-congruent _ _ _ _ e;
      undo = add-undoes _ _ _ (g.Self.Numbered.number c.args.rhs) _ _ o r e (sum-is _ _ _ _);
      self_in_range = r;
      rhs_in_range = rw (← t) c.to_storage-2.ensures.self_in_range;
      width = c.to_storage.ensures.width;
    }
