use Rattle.arbitrary_int.proofs.TotalSteps.{one-unsigned, one-signed}
use Rattle.arbitrary_int.proofs.totals.one.Goals as goal

pub returns-then-not-signed : goal.returns-then-not-signed
returns-then-not-signed g c = one-unsigned _ c.IS_SIGNED-signed.result _ _ c.IS_SIGNED-signed.ensures c.if-not-signed.true (g.met.V.Numbered.width_law c.requires).0 c.masked_new.ensures.value

pub returns : goal.returns
returns g c = one-signed _ _ c.BITS-bits.result _ c.BITS-bits.ensures c.if-bits-eq1.false (g.met.V.Numbered.width_law c.requires).0 c.masked_new-2.ensures.value
