use Rattle.arbitrary_base.proofs.bit_lists.ExtractedField.{items-number}
use Rattle.arbitrary_core.proofs.unsigned.UInt.extract.Goals as goal

pub returns-clause-plain : goal.returns-clause-plain
returns-clause-plain g c f = items-number _ _ _ _ _ _ g.met.T.UnsignedStorage.unsigned_law c.requires.width.0 c.requires.within f (cc)
