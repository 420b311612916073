-- The small sets of this folder, each for one kind of goal. Sets.antt has the public set of the topic.
use Rattle.arbitrary_base.proofs.operations.Bitwise.{bitwise_and-commutes, bitwise_or-associates, bitwise_or-commutes, bitwise_xor-commutes, not-and_parts, not-or_parts, or-distributes_and}
use Rattle.arbitrary_laws.proofs.bits.BitByBit.{and-compared, bit_near-and, bit_near-highest, bit_near-minus_one, bit_near-not, bit_near-or, bit_near-xor, bit_near-zero, compared-and, compared-not, compared-or, compared-xor, not-compared, or-compared, xor-compared}
use Rattle.arbitrary_laws.proofs.bits.Identities.{and-absorbs, and-distributes_or, and-distributes_xor, bitwise_and-associates, bitwise_and-complement, bitwise_and-highest, bitwise_and-minus_one, bitwise_and-not_zero, bitwise_and-same, bitwise_and-zero, bitwise_not-twice, bitwise_not-zero, bitwise_not-zero_signed, bitwise_or-complement, bitwise_or-highest, bitwise_or-minus_one, bitwise_or-not_zero, bitwise_or-same, bitwise_or-zero, bitwise_xor-associates, bitwise_xor-equal, bitwise_xor-highest, bitwise_xor-minus_one, bitwise_xor-not_zero, bitwise_xor-same, bitwise_xor-undoes, bitwise_xor-zero, not-xor_left, or-absorbs}
use Rattle.arbitrary_laws.proofs.bits.Parts.{and-or_of_not, and_not-is_xor, choice-is_xor, majority-is_xor, or-and_of_not, or-is_xor, or-of_parts, xor-is_and, xor-is_or}
use Rattle.arbitrary_laws.proofs.masks.MaskTests.{and-highest, and-minus_one, and_not-none, or-equal_xor, or-none, or-unchanged, within-at_most, xor-equal_or, xor-none, xor-unchanged}
use Rattle.arbitrary_laws.proofs.sums.Complements.{sum-of_parts}
use Rattle.std.proofs.lemmas.Bool.Decides.{Decides-int_eq}

-- one of `& | ^ !`, or several of the same
pub ruleset bits = (Decides-int_eq, bitwise_and-commutes, bitwise_and-associates, bitwise_and-same, bitwise_and-zero, bitwise_and-highest, bitwise_and-minus_one, bitwise_and-not_zero, bitwise_and-complement, bitwise_or-commutes, bitwise_or-associates, bitwise_or-same, bitwise_or-zero, bitwise_or-highest, bitwise_or-minus_one, bitwise_or-not_zero, bitwise_or-complement, bitwise_xor-commutes, bitwise_xor-associates, bitwise_xor-same, bitwise_xor-zero, bitwise_xor-highest, bitwise_xor-minus_one, bitwise_xor-not_zero, bitwise_xor-undoes, bitwise_xor-equal, bitwise_not-twice, bitwise_not-zero, bitwise_not-zero_signed)

-- `& | ^ !` one over another
pub ruleset distribution = (Decides-int_eq, and-distributes_or, or-distributes_and, and-distributes_xor, and-absorbs, or-absorbs, not-and_parts, not-or_parts, not-xor_left, xor-is_and, bitwise_and-commutes, bitwise_or-commutes, bitwise_xor-commutes, bitwise_not-twice)

-- a number taken apart and put together under a mask, and one operation computed by others
pub ruleset masks = (Decides-int_eq, or-of_parts, sum-of_parts, choice-is_xor, and-or_of_not, or-and_of_not, xor-is_or, and_not-is_xor, or-is_xor, bitwise_and-commutes, bitwise_or-commutes, bitwise_xor-commutes, majority-is_xor)

-- any law of `& | ^ !`: the two sides are compared bit by bit
pub ruleset bit_by_bit = (Decides-int_eq, and-compared, or-compared, xor-compared, not-compared, compared-and, compared-or, compared-xor, compared-not, bit_near-and, bit_near-or, bit_near-xor, bit_near-not, bit_near-zero, bit_near-highest, bit_near-minus_one)

-- two tests of `&`, `|` or `^` with equal results
pub ruleset mask_tests = (Decides-int_eq, and_not-none, or-unchanged, or-equal_xor, xor-equal_or, xor-unchanged, xor-none, bitwise_and-commutes, bitwise_and-same, bitwise_or-commutes, bitwise_xor-commutes, or-none, and-minus_one, and-highest, within-at_most)
