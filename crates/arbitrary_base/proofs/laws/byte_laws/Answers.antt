use Rattle.std.proofs.lemmas.List.{reverse-reverse}
use Rattle.arbitrary_base.proofs.bytes.NumberOfBytes.{wrap-bytes_number, bytes-unique, Borsh-canonical, wrap-Borsh, Borsh-unique}
use Rattle.arbitrary_base.proofs.laws.byte_laws.Goals as goal

pub returns : goal.returns
returns c = record {
  reversal = λ l. reverse-reverse l;
  value_of_bytes = wrap-bytes_number;
  bytes_are_unique = bytes-unique;
  borsh_is_canonical = Borsh-canonical;
  value_of_borsh = wrap-Borsh;
  borsh_is_unique = Borsh-unique;
}
