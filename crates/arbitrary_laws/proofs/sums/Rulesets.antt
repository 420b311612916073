-- The small sets of this folder, each for one kind of goal. Sets.antt has the public set of the topic.
use Rattle.arbitrary_base.proofs.integers.Powers.{power-one, power-zero}
use Rattle.arbitrary_base.proofs.modular.Residue.{wrap-of_in_range}
use Rattle.arbitrary_base.proofs.operations.BitsAndSums.{difference-of_or_and, sum-of_disjoint, sum-of_or_and}
use Rattle.arbitrary_base.proofs.operations.Bitwise.{bitwise_and-commutes, bitwise_or-commutes, bitwise_xor-commutes}
use Rattle.arbitrary_base.proofs.operations.Complement.{difference-of_or, negated-is_sum, not-is_difference, not-of_difference, not-of_sum, sum-with_not}
use Rattle.arbitrary_base.proofs.operations.PowerAndQuotient.{power-of_one, power-of_zero, quotient-self, to_u128_bits-back}
use Rattle.arbitrary_base.proofs.operations.Shift.{shifted_left-is_product}
use Rattle.arbitrary_base.proofs.operations.WrappedRing.{difference-of_sum_left, difference-twice, negated-twice, product-of_difference, product-of_sum, products-of_differences, products-of_sums, wrapped_difference-is_sum, wrapped_difference-self, wrapped_product-associates, wrapped_product-commutes, wrapped_product-zero, wrapped_sum-associates, wrapped_sum-commutes, wrapped_sum-zero}
use Rattle.arbitrary_base.proofs.storages.Clamp.{clamp-fits}
use Rattle.arbitrary_laws.proofs.bits.Identities.{bitwise_not-twice}
use Rattle.arbitrary_laws.proofs.numbers.QuotientAndCube.{negated-is_difference, power-twice}
use Rattle.arbitrary_laws.proofs.sums.BitsBesideSums.{difference-of_and, sum-of_xor_and, sum-twice}
use Rattle.arbitrary_laws.proofs.sums.Carry.{difference-less_xor, difference-of_parts, difference-with_borrow, or-is_sum, or-less_xor, sum-less_and, sum-less_or, sum-less_xor, sum-with_carry, xor-is_sum}
use Rattle.arbitrary_laws.proofs.sums.Complements.{difference-by_not, difference-of_nots, negated-not, not-is_negated, not-of_before, sum-by_not}
use Rattle.arbitrary_laws.proofs.sums.HighestBit.{difference-with_highest, sum-with_highest}
use Rattle.arbitrary_laws.proofs.sums.Multiple.{multiple-before, multiple-next, multiples-added, multiples-apart, sum-doubles, wrapped_product-highest}
use Rattle.arbitrary_laws.proofs.sums.Offset.{offset-above, offset-below, offset-down, offset-down_negative, offset-less, offset-round, offsets-added}
use Rattle.arbitrary_laws.proofs.sums.Ring.{difference-of_difference_right, difference-of_squares, difference-of_sum, difference-of_sums, difference-to_difference, difference-turned, negated-sum, product-of_negated, product-of_negated_both, sum-of_difference, sum-of_difference_right, sum-to_difference, wrapped_difference-zero, wrapped_product-one, wrapped_product-two}
use Rattle.std.proofs.lemmas.Bool.Decides.{Decides-int_eq}

-- sums and differences that wrap
pub ruleset ring = (Decides-int_eq, wrapped_sum-commutes, wrapped_sum-associates, wrapped_sum-zero, wrapped_difference-self, wrapped_difference-zero, wrapped_difference-is_sum, difference-of_sum, difference-of_sum_left, sum-of_difference, sum-to_difference, difference-to_difference, difference-twice, difference-turned, negated-twice, negated-sum, sum-of_difference_right, difference-of_difference_right, difference-of_sums)

-- a number moved by written numbers, round its range
pub ruleset offsets = (Decides-int_eq, offsets-added, offset-less, offset-down, offset-down_negative, offset-above, offset-below, offset-round, wrapped_sum-zero)

-- products that wrap, also of sums and differences
pub ruleset products = (Decides-int_eq, wrapped_product-commutes, wrapped_product-associates, wrapped_product-zero, wrapped_product-one, wrapped_product-two, products-of_sums, products-of_differences, product-of_sum, product-of_difference, product-of_negated, product-of_negated_both, shifted_left-is_product, difference-of_squares, wrapped_product-highest, negated-is_difference)

-- multiples of one number by written factors, also made by shifts and by adding it to itself
pub ruleset multiples = (Decides-int_eq, multiples-added, multiples-apart, multiple-next, multiple-before, sum-doubles, shifted_left-is_product, wrapped_sum-commutes, wrapped_product-commutes)

-- small powers, a number by itself, and a number that is extended and cut again
pub ruleset exact = (power-zero, power-one, power-twice, quotient-self, to_u128_bits-back, wrap-of_in_range, clamp-fits, power-of_one, power-of_zero)

-- bits with sums and differences
pub ruleset mixed = (Decides-int_eq, sum-of_or_and, sum-of_disjoint, sum-of_xor_and, difference-of_or_and, difference-of_and, sum-twice, bitwise_and-commutes, bitwise_or-commutes, wrapped_sum-commutes)

-- the complement with sums and differences
pub ruleset complements = (Decides-int_eq, not-is_difference, negated-is_sum, not-of_before, sum-with_not, difference-of_or, difference-of_and, wrapped_sum-commutes, bitwise_not-twice, not-is_negated, negated-not, not-of_sum, not-of_difference, difference-of_nots, difference-by_not, sum-by_not, wrapped_difference-is_sum)

-- carries and borrows: sums and differences from the bits that both numbers have, and those that one of them has
pub ruleset carries = (Decides-int_eq, sum-with_carry, sum-less_xor, sum-less_or, sum-less_and, difference-of_parts, difference-with_borrow, difference-less_xor, or-is_sum, xor-is_sum, or-less_xor, sum-with_highest, difference-with_highest, sum-twice, wrapped_product-two, wrapped_product-commutes, bitwise_and-commutes, bitwise_or-commutes, bitwise_xor-commutes, wrapped_sum-commutes)

-- negation with sums, differences and the complement
pub ruleset negations = (Decides-int_eq, negated-is_difference, negated-twice, negated-sum, difference-turned, sum-of_difference, sum-to_difference, difference-of_sum, wrapped_difference-zero, wrapped_sum-commutes, not-is_difference, negated-is_sum, not-of_before, negated-not)
