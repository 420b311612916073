use Rattle.arbitrary_core.proofs.Place.{place-order}
use Rattle.arbitrary_core.proofs.comparisons.signed.IntOrd.cmp.Goals as goal

pub returns : goal.returns
returns g c =
    place-order g.row.BITS g.T.Storage.WIDTH c.args.self.now c.args.other.now _ _ c.compare.result c.place.ensures.width.0 c.place.ensures.width.1
    (c.place.ensures.above, c.place.ensures.below) (c.place-2.ensures.above, c.place-2.ensures.below) c.compare.ensures
