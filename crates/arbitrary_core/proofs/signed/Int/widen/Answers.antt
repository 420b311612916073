use Rattle.std.proofs.Common.{◌≤◌, arith, ◌∙◌}
use Rattle.arbitrary_base.proofs.modular.Residue.{wrap-in_range}
use Rattle.arbitrary_base.proofs.modular.RoundTrip.{number-stays, pattern-stays}
use Rattle.arbitrary_base.proofs.modular.Truncation.{widened}
use Rattle.arbitrary_core.proofs.signed.Int.widen.Goals as goal

pub invariant_of-result : goal.invariant_of-result
invariant_of-result g c =
    let above = c.requires.above in
    let some : 1 ≤ g.row.R = omega arith in (
      (some, c.requires.width),
      wrap-in_range g.T.Storage.SIGNED g.row.R _ some,
      pattern-stays g.T.Storage.SIGNED g.U.Storage.SIGNED g.row.R _ g.met.U.UnsignedStorage.unsigned_law some c.cast.ensures.result_in_range,
    )

pub returns : goal.returns
returns g c =
    let above = c.requires.above in
    let some : 1 ≤ g.row.R = omega arith in
    let range = widened g.T.Storage.SIGNED g.row.BITS g.row.R _ _ (c.value.ensures.width.0) c.requires.above c.value.ensures.self_in_range c.value.ensures.number in
    number-stays _ _ _ _ _ some range c.cast.ensures.value ∙ c.value.ensures.number
