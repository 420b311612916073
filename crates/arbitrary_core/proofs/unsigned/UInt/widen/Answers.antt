use Rattle.std.proofs.Common.{◌≤◌, arith}
use Rattle.arbitrary_base.proofs.modular.Truncation.{widened}
use Rattle.arbitrary_core.proofs.unsigned.UInt.widen.Goals as goal

pub invariant_of-result : goal.invariant_of-result
invariant_of-result g c =
    let above = c.requires.above in
    let some : 1 ≤ g.row.R = omega arith in
    ((some, c.requires.width), widened g.T.Storage.SIGNED g.row.BITS g.row.R _ _ (c.value.ensures.width.0) c.requires.above c.value.ensures.self_in_range c.value.ensures.number)
