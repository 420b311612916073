use Rattle.std.proofs.Common.{◌∙◌, rules, to_z-of_z}
use Rattle.std.specs.Prelude.{FitsSigned}
use Rattle.std.specs.Int.{w16}
use Rattle.arbitrary_base.proofs.storages.Primitive.{signed-from_bits}
use Rattle.arbitrary_base.proofs.storage.bits16.I16Storage.from_pattern.Goals as goal

pub returns : goal.returns
returns c =
    let f : FitsSigned w16 c.cast_signed.result = search rules in
    to_z-of_z f ∙ c.cast_signed.ensures ∙ signed-from_bits w16 c.args.pattern
