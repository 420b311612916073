use Rattle.std.proofs.Common.{◌≡◌, ℤ, subst}
use Rattle.arbitrary_base.specs.Residue.{wrap}
use Rattle.arbitrary_base.proofs.storages.CheckedSum.{sub-from_zero}
use Rattle.arbitrary_base.proofs.wrapping.neg.Goals as goal

pub returns-clause-value : goal.returns-clause-value
returns-clause-value g c = subst (λ (e : ℤ). g.T.Storage.number c.sub.result ≡ wrap g.T.Storage.SIGNED c.args.bits e) (sub-from_zero (g.T.Storage.number c.args.x) _ c.zero.ensures) c.sub.ensures.value
