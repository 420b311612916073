use Rattle.arbitrary_base.proofs.operations.PowerAndQuotient.{quotient-of_equal}
use Rattle.arbitrary_calls.proofs.calls.products.ProductCalls.checked_div.Goals as goal

pub div-requires : goal.div-requires
div-requires g c =
    let s = c.to_storage.ensures in let r = c.to_storage-2.ensures in
    rw c.BITS.ensures (record { width = s.some; storage = s.storage; x_in_range = rw s.number s.self_in_range; y_in_range = rw r.number r.self_in_range })

pub from_storage-requires : goal.from_storage-requires
from_storage-requires g c = record { some = c.to_storage.ensures.some; storage = c.to_storage.ensures.storage; value_in_range = rw (c.in-Some.ensures.1, ← c.BITS.ensures) c.in-Some.ensures.0.1 }

pub returns-in-Some : goal.returns-in-Some
returns-in-Some g c =
    let t = g.met.Self.Stored.sign_law in
    let m = rw (t, c.BITS.ensures, c.to_storage.ensures.number, c.to_storage-2.ensures.number, ← c.from_storage.ensures) at c.in-Some.ensures in
    record {
      exact = m;
      itself = λ n d. quotient-of_equal _ _ n d;
      self_in_range = rw (← t) c.to_storage.ensures.self_in_range;
      rhs_in_range = rw (← t) c.to_storage-2.ensures.self_in_range;
      width = c.to_storage.ensures.width;
    }

pub returns-in-None : goal.returns-in-None
returns-in-None g c =
    let t = g.met.Self.Stored.sign_law in
    let m = rw (t, c.BITS.ensures, c.to_storage.ensures.number, c.to_storage-2.ensures.number) at c.in-None.ensures in
    record {
      exact = m;
      itself = λ n d. quotient-of_equal _ _ n d;
      self_in_range = rw (← t) c.to_storage.ensures.self_in_range;
      rhs_in_range = rw (← t) c.to_storage-2.ensures.self_in_range;
      width = c.to_storage.ensures.width;
    }
