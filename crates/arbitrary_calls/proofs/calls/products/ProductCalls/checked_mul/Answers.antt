use Rattle.arbitrary_calls.proofs.calls.products.ProductCalls.checked_mul.Goals as goal

pub returns-in-Some : goal.returns-in-Some
returns-in-Some g c =
    let t = g.met.Self.Stored.sign_law in
    let m = rw (t, c.BITS.ensures, c.to_storage.ensures.number, c.to_storage-2.ensures.number, ← c.from_storage.ensures) at c.in-Some.ensures in
    record {
      exact = m;
      self_in_range = rw (← t) c.to_storage.ensures.self_in_range;
      rhs_in_range = rw (← t) c.to_storage-2.ensures.self_in_range;
      width = c.to_storage.ensures.width;
    }

pub returns-in-None : goal.returns-in-None
returns-in-None g c =
    let t = g.met.Self.Stored.sign_law in
    let m = rw (t, c.BITS.ensures, c.to_storage.ensures.number, c.to_storage-2.ensures.number) at c.in-None.ensures in
    record {
      exact = m;
      self_in_range = rw (← t) c.to_storage.ensures.self_in_range;
      rhs_in_range = rw (← t) c.to_storage-2.ensures.self_in_range;
      width = c.to_storage.ensures.width;
    }
