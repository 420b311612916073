use Rattle.std.proofs.Common.{◌∙◌}
use Rattle.arbitrary_base.proofs.bit_lists.ExtractedField.{items-congruent, items-plain, items-wrapped}
use Rattle.arbitrary_calls.proofs.extraction.Extraction.extract_u8.Goals as goal

pub returns : goal.returns
returns g c =
    let x = c.extracted.ensures in
    record {
      value = x.value;
      plain = λ d. x.value ∙ items-plain _ _ 8 _ _ d x.some c.requires.within c.ranges.value.fits;
      congruent = rw x.value (items-congruent _ _ 8 _ _ x.some c.requires.within c.ranges.value.fits);
      wrapped = x.value ∙ items-wrapped _ _ 8 _ _ x.some c.requires.within c.ranges.value.fits;
    }
