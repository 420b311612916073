-- The small sets of this folder, each for one kind of goal. Sets.antt has the public set of the topic.
use Rattle.arbitrary_laws.proofs.bytes.StreamBytes.{Borsh-size, bytes-compared, bytes-converted, bytes-spell, bytes-spell_signed, first-of_Borsh, first-of_Borsh_signed, number-of_Borsh, number-of_Borsh_signed, reverse-back}
use Rattle.arbitrary_laws.proofs.numbers.TextLength.{length-of_text}
use Rattle.std.proofs.lemmas.Bool.Decides.{Decides-int_eq}
use Rattle.std.proofs.lemmas.List.{reverse-reverse}

-- the bytes of a value in a stream: how many they are, and what is read back
pub ruleset streams = (Borsh-size, number-of_Borsh, number-of_Borsh_signed, first-of_Borsh, first-of_Borsh_signed, reverse-reverse)

-- bytes in the other order and of the other sign, and a test of two arrays of bytes
pub ruleset byte_orders = (bytes-compared, bytes-converted, reverse-reverse)

-- two numbers that are compared by their bytes in the other order
pub ruleset swapped_bytes = (Decides-int_eq, bytes-spell, bytes-spell_signed, reverse-back)

-- how long the text of a number is
pub ruleset texts = (length-of_text)
