use Rattle.std.proofs.Common.{◌∙◌, rules, to_z-of_z}
use Rattle.std.specs.Prelude.{FitsSigned}
use Rattle.std.specs.Int.{w64}
use Rattle.arbitrary_base.proofs.storages.Primitive.{signed-from_bits}
use Rattle.arbitrary_base.proofs.storage.bits64.I64Storage.from_pattern.Goals as goal

pub returns : goal.returns
returns c =
    let f : FitsSigned w64 c.cast_signed.result = search rules in
    to_z-of_z f ∙ c.cast_signed.ensures ∙ signed-from_bits w64 c.args.pattern
