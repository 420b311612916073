use Rattle.std.proofs.Common.{sym, ◌∙◌}
use Rattle.arbitrary_base.proofs.modular.Truncation.{InRange-of_wrap}
use Rattle.arbitrary_core.proofs.signed.Int.value.Goals as goal

pub returns : goal.returns
returns g c = record {
  number = c.cast.ensures.value ∙ c.self.view_is;
  width = c.self.invariant.0;
  self_in_range = InRange-of_wrap g.T.Storage.SIGNED g.row.BITS _ _ (c.self.invariant.0.0) (sym c.self.view_is);
}
