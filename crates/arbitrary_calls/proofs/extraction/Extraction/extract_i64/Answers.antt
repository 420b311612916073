use Rattle.std.proofs.Common.{to_z-of_z}
use Rattle.std.specs.Int.{w64}
use Rattle.arbitrary_base.proofs.bit_lists.ExtractedField.{items-field}
use Rattle.arbitrary_base.proofs.storages.Primitive.{signed-in_range}
use Rattle.arbitrary_calls.proofs.extraction.Extraction.extract_i64.Goals as goal

pub returns : goal.returns
returns g c =
    let x = rw (to_z-of_z {w = w64} c.ranges.value) at c.extracted.ensures in
    record {
      value = x.value;
      field = rw x.value (items-field _ _ 64 _ _ x.some c.requires.within (signed-in_range w64 _ c.ranges.value));
    }
