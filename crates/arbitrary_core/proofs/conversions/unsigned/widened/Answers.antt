use Rattle.std.proofs.Common.{le_trans, subst, sym, ◌∙◌}
use Rattle.arbitrary_base.specs.Range.{InRange}
use Rattle.arbitrary_core.proofs.Widening.{kept}
use Rattle.arbitrary_core.proofs.conversions.unsigned.widened.Goals as goal

pub returns : goal.returns
returns g c =
    let one_sign = g.met.S.UnsignedStorage.unsigned_law ∙ sym g.met.T.UnsignedStorage.unsigned_law in
    let width = c.value.ensures.width in
    let room = le_trans (width.1) g.met.S.FitsIn.fits_law in
    let range = c.value.ensures.self_in_range in
    record {
      value = kept _ _ g.row.FROM g.row.BITS _ _ _ one_sign (width.0) room range c.value.ensures.number (c.new.ensures ∙ c.cast.ensures.value);
      value_in_range = subst (λ s. InRange s g.row.FROM c.args.value) g.met.S.UnsignedStorage.unsigned_law range;
    }
