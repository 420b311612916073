use Rattle.arbitrary_base.proofs.modular.ExactOrCongruent.{low_mask-unsigned}
use Rattle.arbitrary_core.proofs.unsigned.UInt.mask.Goals as goal

pub returns-clause-plain : goal.returns-clause-plain
returns-clause-plain g c = low_mask-unsigned _ _ _ _ g.met.T.UnsignedStorage.unsigned_law c.requires.width.0 c.requires.width.1 (cc)
