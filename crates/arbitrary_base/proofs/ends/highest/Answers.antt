use Rattle.std.proofs.Common.{◌∙◌, arith, refl, le_trans}
use Rattle.arbitrary_base.proofs.storages.Clamp.{wrap-below_reach}
use Rattle.arbitrary_base.proofs.ends.highest.Goals as goal

pub returns-clause-value : goal.returns-clause-value
returns-clause-value g c =
    let small = c.reach_below_zero.type_inv in
    c.from_low_bits.ensures.value
    ∙ wrap-below_reach g.T.Storage.SIGNED c.args.bits c.reach_below_zero.result _ c.requires.width (le_trans c.requires.storage (g.met.T.Storage.width_law.1))
    (omega arith) (rw c.SIGNED.ensures at c.reach_below_zero.ensures) refl
