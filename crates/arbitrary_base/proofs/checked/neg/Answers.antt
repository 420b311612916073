use Rattle.std.proofs.Common.{ℤ, subst}
use Rattle.arbitrary_base.specs.Range.{InRange}
use Rattle.std.specs.Prelude.{SomeIff, option_map}
use Rattle.arbitrary_base.proofs.storages.CheckedSum.{sub-from_zero, zero-InRange}
use Rattle.arbitrary_base.proofs.checked.neg.Goals as goal

pub sub-requires-clause-x_in_range : goal.sub-requires-clause-x_in_range
sub-requires-clause-x_in_range g c = zero-InRange g.T.Storage.SIGNED c.args.bits _ c.requires.width c.zero.ensures

pub returns : goal.returns
returns g c = subst (λ (e : ℤ). SomeIff (option_map g.T.Storage.number c.sub.result) (InRange g.T.Storage.SIGNED c.args.bits e) e) (sub-from_zero (g.T.Storage.number c.args.x) _ c.zero.ensures) c.sub.ensures
