use Rattle.std.proofs.Common.{arith, refl}
use Rattle.arbitrary_base.proofs.modular.Truncation.{extended_by}
use Rattle.arbitrary_base.proofs.truncation.extend.Goals as goal

pub returns : goal.returns
returns c =
    let f = c.reach_below_zero-offset.type_inv in
    extended_by c.args.signed c.args.bits c.args.pattern c.reach_below_zero-offset.result _ _ _ c.requires.storage c.reach_below_zero-offset.ensures (omega arith)
    refl c.masked.ensures refl
