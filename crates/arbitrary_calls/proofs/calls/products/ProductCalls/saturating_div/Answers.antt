use Rattle.std.proofs.Common.{◌∙◌}
use Rattle.arbitrary_base.proofs.operations.PowerAndQuotient.{clamped-itself}
use Rattle.arbitrary_base.proofs.storages.Clamp.{clamped-above, clamped-below, clamped-exact}
use Rattle.arbitrary_calls.proofs.calls.products.ProductCalls.saturating_div.Goals as goal

pub div-requires : goal.div-requires
div-requires g c =
    let s = c.to_storage.ensures in let r = c.to_storage-2.ensures in
    rw c.BITS.ensures (record { width = s.some; storage = s.storage; x_in_range = rw s.number s.self_in_range; y_in_range = rw r.number r.self_in_range; divisor = rw r.number c.requires })

pub returns : goal.returns
returns g c =
    let t = g.met.Self.Stored.sign_law in
    let m = rw (t, c.BITS.ensures, c.to_storage.ensures.number, c.to_storage-2.ensures.number) at c.div.ensures in
    let e = c.from_storage.ensures ∙ m.value in
    record {
      value = e;
      exact = λ f. clamped-exact _ _ _ _ f e;
      above = λ f. clamped-above _ _ _ _ c.to_storage.ensures.some f e;
      below = λ f. clamped-below _ _ _ _ f e;
      result_in_range = rw c.from_storage.ensures m.result_in_range;
      itself = λ f d. clamped-itself _ _ _ _ _ e c.requires f d;
      self_in_range = rw (← t) c.to_storage.ensures.self_in_range;
      rhs_in_range = rw (← t) c.to_storage-2.ensures.self_in_range;
      width = c.to_storage.ensures.width;
    }
