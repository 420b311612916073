use Rattle.std.proofs.Common.{◌∙◌}
use Rattle.arbitrary_base.proofs.modular.ExactOrCongruent.{wrapped-exact}
use Rattle.arbitrary_base.proofs.operations.PowerAndQuotient.{wrapped-itself, wrapped-of_least}
use Rattle.arbitrary_calls.proofs.calls.products.ProductCalls.wrapping_div.Goals as goal

pub div-requires : goal.div-requires
div-requires g c =
    let s = c.to_storage.ensures in let r = c.to_storage-2.ensures in
    rw c.BITS.ensures (record { width = s.some; storage = s.storage; divisor = rw r.number c.requires })

pub returns : goal.returns
returns g c =
    let t = g.met.Self.Stored.sign_law in
    let o = c.to_storage.ensures.some in
    let m = rw (t, c.BITS.ensures, c.to_storage.ensures.number, c.to_storage-2.ensures.number) at c.div.ensures in
    let e = c.from_storage.ensures ∙ m.value in
    let r = rw t at c.to_storage.ensures.self_in_range in
    let q = rw t at c.to_storage-2.ensures.self_in_range in
    record {
      value = e;
      exact = λ f. wrapped-exact _ _ _ _ o f e;
      of_least = λ d n. wrapped-of_least _ _ _ _ _ o r q e d n;
      itself = λ f d. wrapped-itself _ _ _ _ _ o e c.requires f d;
      self_in_range = r;
      rhs_in_range = q;
      width = c.to_storage.ensures.width;
    }
