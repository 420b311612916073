use Rattle.std.specs.Prelude.{neg_ℤ, IsTrue, ◌↔◌}
use Rattle.std.proofs.Common.{subst, sym}
use Rattle.arbitrary_base.specs.Range.{InRange}
use Rattle.arbitrary_base.specs.Residue.{wrap}
use Rattle.arbitrary_base.proofs.LawProof.{out-of_range_tested}
use Rattle.arbitrary_base.proofs.modular.ExactOrCongruent.{wrapped-congruent, wrapped-exact}
use Rattle.arbitrary_base.proofs.operations.WrappedRing.{negated-is}
use Rattle.arbitrary_core.proofs.Results.{of_number}
use Rattle.arbitrary_core.proofs.signed.Int.overflowing_neg.Goals as goal

pub neg-negated-requires-clause-x_in_range : goal.neg-negated-requires-clause-x_in_range
neg-negated-requires-clause-x_in_range g c = subst (InRange _ _) (sym c.value.ensures.number) c.value.ensures.self_in_range

pub returns : goal.returns
returns g c =
    let e = of_number (λ x. wrap g.T.Storage.SIGNED g.row.BITS (neg_ℤ x)) c.value.ensures.number c.neg-negated.ensures.value c.new.ensures in
    let overflow = subst (λ x. IsTrue c.neg-negated.result.1 ↔ ¬ (InRange g.T.Storage.SIGNED g.row.BITS (neg_ℤ x))) c.value.ensures.number c.neg-negated.ensures.overflow in
    record {
      operation = negated-is _ _ _ _ e;
      value = e;
      overflow = overflow;
      flag = out-of_range_tested _ _ _ _ overflow;
      exact = λ h. wrapped-exact _ _ _ _ c.value.ensures.width.0 h e;
      congruent = wrapped-congruent _ _ _ _ e;
    }
