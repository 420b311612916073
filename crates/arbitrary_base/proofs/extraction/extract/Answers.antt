use Rattle.arbitrary_base.proofs.bit_lists.ResultOfPattern.{items-shifted}
use Rattle.arbitrary_base.proofs.extraction.extract.Goals as goal

pub returns-clause-value : goal.returns-clause-value
returns-clause-value g c =
    items-shifted g.T.Storage.SIGNED g.S.Storage.SIGNED c.args.bits g.S.Storage.WIDTH c.args.start_bit _ _ _ _ _ c.requires.width c.requires.within c.shr_by.ensures
    c.pattern.ensures.value c.from_low_bits.ensures.value
