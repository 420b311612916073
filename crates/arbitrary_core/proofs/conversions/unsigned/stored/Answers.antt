use Rattle.std.proofs.Common.{rules, subst, sym, ◌∙◌}
use Rattle.arbitrary_base.specs.Range.{InRange}
use Rattle.arbitrary_core.proofs.Widening.{kept}
use Rattle.arbitrary_core.proofs.conversions.unsigned.stored.Goals as goal

pub returns : goal.returns
returns g c =
    let one_sign = g.met.S.UnsignedStorage.unsigned_law ∙ sym g.met.T.UnsignedStorage.unsigned_law in
    let valid = g.met.T.HasWidth.valid_law in
    let range = c.value.ensures.self_in_range in
    let e = kept _ _ g.row.BITS _ _ _ _ one_sign (valid.0) (valid.1) range c.value.ensures.number (search rules) in
    record {
      value = e;
      value_in_range = subst (λ s. InRange s g.row.BITS c.args.value) g.met.S.UnsignedStorage.unsigned_law range;
      result_in_range = subst (InRange g.T.Storage.SIGNED g.row.BITS) (sym e) (subst (λ s. InRange s g.row.BITS c.args.value) one_sign range);
    }
