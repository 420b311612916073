use Rattle.arbitrary_base.proofs.modular.ExactOrCongruent.{low_mask-below}
use Rattle.arbitrary_core.proofs.signed.Int.mask.Goals as goal

pub returns-clause-plain : goal.returns-clause-plain
returns-clause-plain g c h = low_mask-below g.T.Storage.SIGNED g.row.BITS g.T.Storage.WIDTH _ h (cc)
