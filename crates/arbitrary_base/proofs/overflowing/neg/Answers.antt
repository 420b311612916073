use Rattle.std.proofs.Common.{◌≡◌, ℤ, subst}
use Rattle.std.specs.Prelude.{IsTrue, ◌↔◌}
use Rattle.arbitrary_base.specs.Range.{InRange}
use Rattle.arbitrary_base.specs.Residue.{wrap}
use Rattle.arbitrary_base.proofs.storages.CheckedSum.{sub-from_zero, zero-InRange}
use Rattle.arbitrary_base.proofs.overflowing.neg.Goals as goal

pub sub-requires-clause-x_in_range : goal.sub-requires-clause-x_in_range
sub-requires-clause-x_in_range g c = zero-InRange g.T.Storage.SIGNED c.args.bits _ c.requires.width c.zero.ensures

pub returns-clause-value : goal.returns-clause-value
returns-clause-value g c = subst (λ (e : ℤ). g.T.Storage.number (c.sub.result.0) ≡ wrap g.T.Storage.SIGNED c.args.bits e) (sub-from_zero (g.T.Storage.number c.args.x) _ c.zero.ensures) c.sub.ensures.value

pub returns-clause-overflow : goal.returns-clause-overflow
returns-clause-overflow g c = subst (λ (e : ℤ). IsTrue (c.sub.result.1) ↔ ¬ (InRange g.T.Storage.SIGNED c.args.bits e)) (sub-from_zero (g.T.Storage.number c.args.x) _ c.zero.ensures) c.sub.ensures.overflow
