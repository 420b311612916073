use Rattle.arbitrary_base.proofs.LawProof.{checked-by_overflow, checked-quotient_by_overflow}
use Rattle.arbitrary_base.proofs.laws.checked_laws.Goals as goal

pub returns : goal.returns
returns c = record {
  results = checked-by_overflow;
  quotients = checked-quotient_by_overflow;
}
