use Rattle.arbitrary_base.proofs.modular.RoundTrip.{number-of_residue, residue-of_number, bits-of_residue}
use Rattle.arbitrary_base.proofs.laws.pattern_laws.Goals as goal

pub returns : goal.returns
returns c = record {
  number = number-of_residue;
  pattern = residue-of_number;
  bits = bits-of_residue;
}
