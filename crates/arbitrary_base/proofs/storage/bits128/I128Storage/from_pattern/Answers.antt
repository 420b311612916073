use Rattle.std.proofs.Common.{◌∙◌, rules, to_z-of_z}
use Rattle.std.specs.Prelude.{FitsSigned}
use Rattle.std.specs.Int.{w128}
use Rattle.arbitrary_base.proofs.storages.Primitive.{signed-from_small}
use Rattle.arbitrary_base.proofs.storage.bits128.I128Storage.from_pattern.Goals as goal

pub returns : goal.returns
returns c =
    let f : FitsSigned w128 c.cast_signed.result = search rules in
    to_z-of_z f ∙ c.cast_signed.ensures ∙ signed-from_small w128 c.args.pattern c.ranges.pattern.fits
