-- The small sets of this folder, each for one kind of goal. Sets.antt has the public set of the topic.
use Rattle.arbitrary_base.proofs.operations.KnownMask.{and-congruent, and-within}
use Rattle.arbitrary_laws.proofs.bits.Identities.{bitwise_and-highest, bitwise_and-minus_one, bitwise_and-zero, bitwise_or-zero, bitwise_xor-zero}
use Rattle.arbitrary_laws.proofs.bits.OwnBits.{own_bits-in_range}
use Rattle.arbitrary_laws.proofs.masks.NumberUnderMask.{and-below, and-by_complement, and-by_negative, and-digits, and-digits_signed, and-multiple, and-multiple_by_negative, and-of_cleared, and-of_set, and-remainder, and-run, or-by_and, xor-by_and}
use Rattle.arbitrary_laws.proofs.masks.WrittenMask.{and-none, and-of_cleared_by_negative, or-by_mask, xor-by_mask}
use Rattle.arbitrary_laws.proofs.written.WrittenParts.{and-of_written_or, and-written, or-of_written_parts, or-written, xor-of_written_parts, xor-written}
use Rattle.std.proofs.lemmas.Bool.Decides.{Decides-int_eq}

-- a number under a mask that is written out: what stays, what is cleared, set and turned over, in sums, multiples and remainders
pub ruleset known_masks = (Decides-int_eq, and-digits, and-digits_signed, and-run, and-congruent, and-multiple, and-multiple_by_negative, and-within, and-below, and-by_complement, and-by_negative, or-by_and, xor-by_and, and-of_cleared, and-of_set, own_bits-in_range)

-- flags that are set and cleared by a mask that is written out, exactly
pub ruleset flags = (Decides-int_eq, and-digits, and-run, and-within, and-none, and-by_complement, and-by_negative, or-by_mask, xor-by_mask, and-of_cleared, and-of_cleared_by_negative, and-of_set, own_bits-in_range)

-- written numbers that follow each other, and the parts of a number under written masks
pub ruleset written_masks = (Decides-int_eq, and-written, or-written, xor-written, or-of_written_parts, xor-of_written_parts, and-of_written_or, bitwise_and-highest, bitwise_and-zero, bitwise_and-minus_one, bitwise_or-zero, bitwise_xor-zero)

-- a number under a mask of low ones is its remainder
pub ruleset remainders = (Decides-int_eq, and-remainder)
