use Rattle.std.proofs.Common.{ap, subst, sym, ◌∙◌}
use Rattle.std.specs.Prelude.{pos}
use Rattle.arbitrary_base.specs.Residue.{Congruent, residue}
use Rattle.arbitrary_base.proofs.modular.Residue.{congruent-wrap}
use Rattle.arbitrary_base.proofs.modular.Truncation.{InRange-of_wrap}
use Rattle.arbitrary_core.proofs.StoredBits.{pattern-range}
use Rattle.arbitrary_core.proofs.signed.Int.to_bits.Goals as goal

pub returns : goal.returns
returns g c = record {
  value = sym c.self.invariant.2 ∙ ap (λ x. pos (residue g.row.BITS x)) c.self.view_is;
  congruent = subst (Congruent g.row.BITS _) c.self.view_is (congruent-wrap g.T.Storage.SIGNED g.row.BITS _);
  result_in_range = pattern-range g.U.Storage.SIGNED g.row.BITS _ _ g.met.U.UnsignedStorage.unsigned_law c.self.invariant.2;
  self_in_range = InRange-of_wrap g.T.Storage.SIGNED g.row.BITS _ _ (c.self.invariant.0.0) (sym c.self.view_is);
  width = c.self.invariant.0;
}
