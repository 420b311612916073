use Rattle.std.proofs.Common.{◌∙◌}
use Rattle.arbitrary_base.proofs.operations.PowerAndQuotient.{clamped-first, clamped-of_one, clamped-of_zero}
use Rattle.arbitrary_base.proofs.storages.Clamp.{clamped-above, clamped-below, clamped-exact}
use Rattle.arbitrary_calls.proofs.calls.products.ProductCalls.saturating_pow_counted.Goals as goal

pub saturating_pow_counted-power-requires : goal.saturating_pow_counted-power-requires
saturating_pow_counted-power-requires g c =
    let s = c.to_storage.ensures in
    rw c.BITS.ensures (record { width = s.some; storage = s.storage; x_in_range = rw s.number s.self_in_range })

pub returns : goal.returns
returns g c =
    let t = g.met.Self.Stored.sign_law in
    let m = rw (t, c.BITS.ensures, c.to_storage.ensures.number) at c.saturating_pow_counted-power.ensures in
    let e = c.from_storage.ensures ∙ m.value in
    let r = rw t at c.to_storage.ensures.self_in_range in
    record {
      value = e;
      count = m.count;
      bound = m.bound;
      exact = λ f. clamped-exact _ _ _ _ f e;
      above = λ f. clamped-above _ _ _ _ c.to_storage.ensures.some f e;
      below = λ f. clamped-below _ _ _ _ f e;
      result_in_range = rw c.from_storage.ensures m.result_in_range;
      first = λ d. clamped-first _ _ c.args.exp _ _ r e d;
      of_one = λ d. clamped-of_one _ _ c.args.exp _ _ r e d;
      of_zero = λ d l. clamped-of_zero _ _ c.args.exp _ _ r e d l;
      self_in_range = r;
      width = c.to_storage.ensures.width;
    }
