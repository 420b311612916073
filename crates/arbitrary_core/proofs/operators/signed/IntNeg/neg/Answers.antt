use Rattle.std.specs.Prelude.{neg_ℤ}
use Rattle.arbitrary_base.specs.Residue.{wrap}
use Rattle.arbitrary_base.proofs.modular.ExactOrCongruent.{wrapped-exact}
use Rattle.arbitrary_core.proofs.Results.{of_number}
use Rattle.arbitrary_core.proofs.operators.signed.IntNeg.neg.Goals as goal

pub returns : goal.returns
returns g c = wrapped-exact _ _ _ _ c.value.ensures.width.0 c.requires (of_number (λ x. wrap g.T.Storage.SIGNED g.row.BITS (neg_ℤ x)) c.value.ensures.number c.neg.ensures.value c.new.ensures)
