use Rattle.arbitrary_base.proofs.LawProof.{wrap-within, is-wrap}
use Rattle.arbitrary_base.proofs.modular.Residue.{wrap-congruent, wrap-of_in_range}
use Rattle.arbitrary_base.proofs.laws.wrap_laws.Goals as goal

pub returns : goal.returns
returns c = record {
  in_range = wrap-within;
  congruent = wrap-congruent;
  unique = is-wrap;
  keeps = wrap-of_in_range;
}
