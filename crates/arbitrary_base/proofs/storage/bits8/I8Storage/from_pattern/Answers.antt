-- For `from_pattern` of `i8` in src/storage/bits8.rt: the cast to a signed type returns the number of the pattern.
-- The storages of 16, 32 and 64 bits have the same proof.
use Rattle.std.proofs.Common.{◌∙◌, rules, to_z-of_z}
use Rattle.std.specs.Prelude.{FitsSigned}
use Rattle.std.specs.Int.{w8}
use Rattle.arbitrary_base.proofs.storages.Primitive.{signed-from_bits}
use Rattle.arbitrary_base.proofs.storage.bits8.I8Storage.from_pattern.Goals as goal

pub returns : goal.returns
returns c =
    let f : FitsSigned w8 c.cast_signed.result = search rules in
    to_z-of_z f ∙ c.cast_signed.ensures ∙ signed-from_bits w8 c.args.pattern
