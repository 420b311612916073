use Rattle.std.proofs.Common.{◌∙◌}
use Rattle.arbitrary_core.proofs.Place.{place-above, place-below}
use Rattle.arbitrary_core.proofs.comparisons.signed.place.Goals as goal

pub returns-clause-above : goal.returns-clause-above
returns-clause-above g c u =
    place-above g.T.Storage.SIGNED g.U.Storage.SIGNED g.row.BITS g.T.Storage.WIDTH g.U.Storage.WIDTH c.args.x _ _ _ _
    g.met.T.SignedStorage.signed_law g.met.U.UnsignedStorage.unsigned_law c.to_bits-bits.ensures.width.0 c.to_bits-bits.ensures.width.1
    g.met.U.UnsignedOf.unsigned_width_law c.to_bits-bits.ensures.self_in_range c.to_bits-bits.ensures.value (c.new-least.ensures ∙ c.lowest.ensures.value)
    c.to_bits.ensures.value c.wrapping_sub.ensures u

pub returns-clause-below : goal.returns-clause-below
returns-clause-below g c u =
    place-below g.T.Storage.SIGNED g.U.Storage.SIGNED g.row.BITS g.T.Storage.WIDTH g.U.Storage.WIDTH c.args.x _ _ _ _
    g.met.T.SignedStorage.signed_law g.met.U.UnsignedStorage.unsigned_law c.to_bits-bits.ensures.width.0 c.to_bits-bits.ensures.width.1
    g.met.U.UnsignedOf.unsigned_width_law c.to_bits-bits.ensures.self_in_range c.to_bits-bits.ensures.value (c.new-least.ensures ∙ c.lowest.ensures.value)
    c.to_bits.ensures.value c.wrapping_sub.ensures u
