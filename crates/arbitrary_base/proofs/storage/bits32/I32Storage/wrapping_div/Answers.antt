-- For `wrapping_div` of `i32` in src/storage/bits32.rt: std's quotient is the exact one, wrapped, by
-- integers/Quotient.antt. The storages of 8, 16, 64 and 128 bits have the same proof: change all five.
use Rattle.std.proofs.Common.{◌∙◌, rules, to_z-of_z}
use Rattle.std.specs.Prelude.{FitsSigned}
use Rattle.std.specs.Int.{w32, int_wrapping_div}
use Rattle.arbitrary_base.proofs.integers.Quotient.{signed-wrapping_div}
use Rattle.arbitrary_base.proofs.storage.bits32.I32Storage.wrapping_div.Goals as goal

pub returns : goal.returns
returns c =
    let f : FitsSigned w32 c.wrapping_div.result = search rules in
    to_z-of_z f ∙ c.wrapping_div.ensures
    ∙ (λ i. int_wrapping_div w32 (to_z-of_z c.ranges.self i) (to_z-of_z c.ranges.other i))
    ∙ signed-wrapping_div w32 c.args.self c.args.other c.ranges.self
