use Rattle.std.proofs.Common.{◌∙◌}
use Rattle.arbitrary_base.proofs.storages.Clamp.{clamped-above, clamped-below, clamped-exact}
use Rattle.arbitrary_calls.proofs.calls.products.ProductCalls.saturating_mul.Goals as goal

pub returns : goal.returns
returns g c =
    let t = g.met.Self.Stored.sign_law in
    let m = rw (t, c.BITS.ensures, c.to_storage.ensures.number, c.to_storage-2.ensures.number) at c.mul.ensures in
    let e = c.from_storage.ensures ∙ m.value in
    record {
      value = e;
      exact = λ f. clamped-exact _ _ _ _ f e;
      above = λ f. clamped-above _ _ _ _ c.to_storage.ensures.some f e;
      below = λ f. clamped-below _ _ _ _ f e;
      result_in_range = rw c.from_storage.ensures m.result_in_range;
      self_in_range = rw (← t) c.to_storage.ensures.self_in_range;
      rhs_in_range = rw (← t) c.to_storage-2.ensures.self_in_range;
      width = c.to_storage.ensures.width;
    }
