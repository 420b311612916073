use Rattle.std.specs.Prelude.{neg_ℤ}
use Rattle.std.proofs.Common.{subst, sym}
use Rattle.arbitrary_base.specs.Range.{InRange}
use Rattle.arbitrary_base.specs.Saturating.{clamp}
use Rattle.arbitrary_base.proofs.storages.Clamp.{clamped-above, clamped-exact}
use Rattle.arbitrary_core.proofs.Results.{of_number}
use Rattle.arbitrary_core.proofs.signed.Int.saturating_neg.Goals as goal

pub neg-requires-clause-x_in_range : goal.neg-requires-clause-x_in_range
neg-requires-clause-x_in_range g c = subst (InRange _ _) (sym c.value.ensures.number) c.value.ensures.self_in_range

pub returns : goal.returns
returns g c =
    let e = of_number (λ x. clamp g.T.Storage.SIGNED g.row.BITS (neg_ℤ x)) c.value.ensures.number c.neg.ensures.value c.new.ensures in
    record {
      value = e;
      exact = λ h. clamped-exact _ _ _ _ h e;
      above = λ h. clamped-above _ _ _ _ c.value.ensures.width.0 h e;
    }
