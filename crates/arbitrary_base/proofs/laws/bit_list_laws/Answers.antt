use Rattle.std.specs.Bool.{beq}
use Rattle.std.proofs.lemmas.List.{reverse-reverse}
use Rattle.std.proofs.lemmas.List.Sums.{prefix_len-le-length}
use Rattle.arbitrary_base.proofs.bit_lists.Count.{popcount-not, tail-le}
use Rattle.arbitrary_base.proofs.bit_lists.ExtractedField.{field-items}
use Rattle.arbitrary_base.proofs.bit_lists.Movement.{rotr-rotl, items-items}
use Rattle.arbitrary_base.proofs.bit_lists.TwosComplement.{val-bits_in_range, bits-val, num-bits_residue}
use Rattle.arbitrary_base.proofs.bit_lists.UnsignedNumber.{length-bits}
use Rattle.arbitrary_base.proofs.laws.bit_list_laws.Goals as goal

pub returns : goal.returns
returns c = record {
  length = length-bits;
  number = num-bits_residue;
  value_of_bits = val-bits_in_range;
  bits_of_value = bits-val;
  rotations = rotr-rotl;
  reversal = λ l. reverse-reverse l;
  popcount = popcount-not;
  front_runs = λ b l. prefix_len-le-length (beq b) l;
  end_runs = tail-le;
  extraction = items-items;
  field = field-items;
}
