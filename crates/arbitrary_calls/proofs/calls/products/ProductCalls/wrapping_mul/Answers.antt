use Rattle.std.proofs.Common.{sym, ◌∙◌}
use Rattle.arbitrary_base.proofs.modular.ExactOrCongruent.{wrapped-congruent, wrapped-exact}
use Rattle.arbitrary_base.proofs.operations.Definition.{product-is}
use Rattle.arbitrary_calls.proofs.calls.products.ProductCalls.wrapping_mul.Goals as goal

pub returns : goal.returns
returns g c =
    let t = g.met.Self.Stored.sign_law in
    let m = rw (t, c.BITS.ensures, c.to_storage.ensures.number, c.to_storage-2.ensures.number) at c.mul.ensures in
    let e = c.from_storage.ensures ∙ m.value in
    record {
      operation = e ∙ sym (product-is _ _ _ _);
      value = e;
      exact = λ f. wrapped-exact _ _ _ _ c.to_storage.ensures.some f e;
      congruent = wrapped-congruent _ _ _ _ e;
      self_in_range = rw (← t) c.to_storage.ensures.self_in_range;
      rhs_in_range = rw (← t) c.to_storage-2.ensures.self_in_range;
      width = c.to_storage.ensures.width;
    }
