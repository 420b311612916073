-- The public sets of laws, one for each topic. Write `#![tactic(auto, using(arbitrary_laws::proofs::Sets::bits))]`
-- at the top of a file, or `#[..]` on a function. docs/SETS.md has facts that each set proves. Each consists of
-- small sets, which are next to their lemmas and have a few more laws: with all of them the search would run out
-- of budget.
use Rattle.arbitrary_base.proofs.LawProof.{in_range-decides, sums-associate}
use Rattle.arbitrary_base.proofs.bit_lists.TwosComplement.{num-bits_residue, val-bits_in_range}
use Rattle.arbitrary_base.proofs.bit_lists.UnsignedNumber.{length-bits}
use Rattle.arbitrary_base.proofs.integers.Powers.{power-one, power-zero}
use Rattle.arbitrary_base.proofs.integers.Ring.{pos-unsigned_abs}
use Rattle.arbitrary_base.proofs.modular.Inverse.{wrap-wrap}
use Rattle.arbitrary_base.proofs.modular.LowBitOperation.{wrap-wide}
use Rattle.arbitrary_base.proofs.modular.Residue.{wrap-congruent, wrap-of_in_range}
use Rattle.arbitrary_base.proofs.operations.BitByBit.{bit-and, bit-not, bit-or, bit-xor}
use Rattle.arbitrary_base.proofs.operations.BitsAndSums.{difference-of_or_and, or-above, sum-of_disjoint, sum-of_or_and}
use Rattle.arbitrary_base.proofs.operations.Bitwise.{bitwise_and-commutes, bitwise_or-associates, bitwise_or-commutes, bitwise_xor-commutes, not-and_parts, not-or_parts}
use Rattle.arbitrary_base.proofs.operations.Complement.{difference-of_or, not-of_difference, not-of_sum, sum-with_not}
use Rattle.arbitrary_base.proofs.operations.KnownMask.{and-congruent, and-within}
use Rattle.arbitrary_base.proofs.operations.PopulationAndRuns.{front-of_reversed, front_ones-of_not, front_zeros-of_not, popcount-of_and, popcount-of_and_or, popcount-of_left, popcount-of_not, popcount-of_reversed, popcount-of_zero, tail-of_reversed, tail_ones-of_not, tail_zeros-of_not}
use Rattle.arbitrary_base.proofs.operations.PowerAndQuotient.{power-of_one, power-of_zero, quotient-self, to_u128_bits-back}
use Rattle.arbitrary_base.proofs.operations.RotateAndReverse.{reversed-and, reversed-not, reversed-not_zero, reversed-or, reversed-rotated_left, reversed-shifted_left, reversed-xor, reversed-zero, rotated_left-and, rotated_left-none, rotated_left-not, rotated_left-not_zero, rotated_left-or, rotated_left-xor, rotated_left-zero, rotated_right-as_left, rotated_right-none}
use Rattle.arbitrary_base.proofs.operations.Shift.{left_right-mask_not, right_left-mask_not, shifted_left-and, shifted_left-difference, shifted_left-is_product, shifted_left-none, shifted_left-or, shifted_left-sum, shifted_left-xor, shifted_left-zero, shifted_right-and, shifted_right-is_shr, shifted_right-none, shifted_right-not, shifted_right-or, shifted_right-xor, shifted_right-zero}
use Rattle.arbitrary_base.proofs.operations.WrappedRing.{difference-of_sum_left, difference-twice, negated-twice, product-of_difference, product-of_sum, products-of_differences, products-of_sums, wrapped_difference-self, wrapped_product-associates, wrapped_product-commutes, wrapped_product-zero, wrapped_sum-associates, wrapped_sum-commutes, wrapped_sum-zero}
use Rattle.arbitrary_base.proofs.storages.Clamp.{clamp-above, clamp-below, clamp-fits}
use Rattle.arbitrary_calls.proofs.counts.EndCounts.{front-of_highest, front-of_zero, no_ones-of_zero, popcount-of_highest, popcount-of_minus_one, tail-of_highest, tail-of_zero, zero-of_no_ones}
use Rattle.arbitrary_calls.proofs.counts.RunBesideCount.{front_ones-below_ones, front_zeros-beside_ones, tail_ones-below_ones, tail_zeros-beside_ones}
use Rattle.arbitrary_int.proofs.RangeNumbers.{numbers-count}
use Rattle.arbitrary_laws.proofs.Everyday.{or_three}
use Rattle.arbitrary_laws.proofs.bits.BitByBit.{and-compared, bit_near-and, bit_near-highest, bit_near-minus_one, bit_near-not, bit_near-or, bit_near-xor, bit_near-zero, compared-and, compared-not, compared-or, compared-xor, not-compared, or-compared, xor-compared}
use Rattle.arbitrary_laws.proofs.bits.BitSums.{or-at_most_sum, xor-at_most_sum}
use Rattle.arbitrary_laws.proofs.bits.Identities.{and-absorbs, and-distributes_or, and-distributes_xor, bitwise_and-associates, bitwise_and-complement, bitwise_and-highest, bitwise_and-minus_one, bitwise_and-not_zero, bitwise_and-same, bitwise_and-zero, bitwise_not-twice, bitwise_not-zero, bitwise_not-zero_signed, bitwise_or-complement, bitwise_or-highest, bitwise_or-minus_one, bitwise_or-not_zero, bitwise_or-same, bitwise_or-zero, bitwise_xor-associates, bitwise_xor-equal, bitwise_xor-highest, bitwise_xor-minus_one, bitwise_xor-not_zero, bitwise_xor-same, bitwise_xor-undoes, bitwise_xor-zero, not-xor_left, or-absorbs}
use Rattle.arbitrary_laws.proofs.bits.LongerSide.{alone-added, alone-summed, either-alone, negated-added, negated-less_one, next-negated, not-added, not-and_one, not-taken, or-less_and, shifts-added, shifts-joined, shifts-under_xor, without-shared, xor-and_shared}
use Rattle.arbitrary_laws.proofs.bits.OwnBits.{own_bits-in_range}
use Rattle.arbitrary_laws.proofs.bits.Parts.{and-or_of_not, and_not-is_xor, choice-is_xor, majority-is_xor, or-and_of_not, or-is_xor, or-of_parts, xor-is_or}
use Rattle.arbitrary_laws.proofs.bytes.StreamBytes.{Borsh-size, bytes-compared, bytes-converted, bytes-spell, bytes-spell_signed, first-of_Borsh, first-of_Borsh_signed, number-of_Borsh, number-of_Borsh_signed, reverse-back}
use Rattle.arbitrary_laws.proofs.bytes.SwappedBytes.{popcount-of_swapped, swapped-and, swapped-equal, swapped-is, swapped-not, swapped-or, swapped-reversed, swapped-twice, swapped-xor}
use Rattle.arbitrary_laws.proofs.counts.CountBounds.{front-alike_one, front-of_numeral, front-of_one_bit, front-of_shifted_left, popcount-of_one_bit, popcount-of_shifted_left, popcount-of_shifted_right, popcount-of_xor, tail-alike_one, tail-of_shifted_right}
use Rattle.arbitrary_laws.proofs.counts.LeadingZeros.{leading-of_primitive, tail-of_numeral, zeros-at_least, zeros-below}
use Rattle.arbitrary_laws.proofs.counts.LowestBitCounts.{popcount-filled, popcount-of_below, popcount-of_lowest, popcount-to_lowest}
use Rattle.arbitrary_laws.proofs.counts.Population.{front-of_not_zero, popcount-of_and_not, popcount-of_or, popcount-of_right, tail-of_not_zero}
use Rattle.arbitrary_laws.proofs.counts.RunsOfTwo.{front-of_and, front-of_left, front-of_or, front-of_right, front-of_xor, front_ones-of_and, front_ones-of_or, tail-of_and, tail-of_left, tail-of_or, tail-of_right, tail-of_xor, tail_ones-of_and, tail_ones-of_or}
use Rattle.arbitrary_laws.proofs.counts.TrailingZeros.{multiples-by_zeros, zeros-of_multiples}
use Rattle.arbitrary_laws.proofs.fields.EmptyWord.{with_field-of_nothing}
use Rattle.arbitrary_laws.proofs.fields.JoinedFields.{joined_first, joined_next}
use Rattle.arbitrary_laws.proofs.fields.JoinedWords.{and_above, or_above, or_above_numeral, or_masked, or_numeral_between, or_numeral_first, or_numeral_last}
use Rattle.arbitrary_laws.proofs.fields.LowestField.{lowest_field, lowest_field-wrapped, or_below_flag}
use Rattle.arbitrary_laws.proofs.fields.MovedIn.{or_moved_above, or_moved_in}
use Rattle.arbitrary_laws.proofs.fields.PlacedField.{field_cleared, field_written, placed-written}
use Rattle.arbitrary_laws.proofs.fields.PrimitiveFlags.{and_beside, or_flags, xor_flags}
use Rattle.arbitrary_laws.proofs.fields.ReplacedField.{and_around, or-into_cleared, or_into_hole}
use Rattle.arbitrary_laws.proofs.fields.SideBySide.{numeral_next, or_next}
use Rattle.arbitrary_laws.proofs.fields.SignedField.{bits-of_signed, signed-of_bits, signed-of_unsigned, unsigned-of_signed, written-congruent}
use Rattle.arbitrary_laws.proofs.masks.FlagTests.{clear-by_flag, flags-compared, set-by_flag, set-unless_clear}
use Rattle.arbitrary_laws.proofs.masks.MaskTests.{and-highest, and-minus_one, and_not-none, or-equal_xor, or-none, or-unchanged, within-at_most, xor-equal_or, xor-none, xor-unchanged}
use Rattle.arbitrary_laws.proofs.masks.MaskedResults.{difference-masked_left, difference-masked_right, left-masked_away, or-past, product-masked_left, product-masked_right, sum-masked_left, sum-masked_right, sum-past_left, sum-past_right, xor-past}
use Rattle.arbitrary_laws.proofs.masks.NumberUnderMask.{and-below, and-by_complement, and-by_negative, and-digits, and-digits_signed, and-multiple, and-multiple_by_negative, and-of_cleared, and-of_set, and-run, or-by_and, xor-by_and}
use Rattle.arbitrary_laws.proofs.masks.VariableMasks.{and-highest_moved, and-low, and-minus_one_moved, and-not_low, left-of_low, low-again, low-exact, low-joined, low-of_left, low-turned, low-wrapped, not-of_highest, not-of_minus_one, parts-exact, parts-in_range, parts-wrapped, rest-in_range, rest-rounds, right-again, right-of_highest, right-of_low, right-of_masked, right-of_masked_signed, without-low}
use Rattle.arbitrary_laws.proofs.masks.WrittenMask.{and-none, and-of_cleared_by_negative, or-by_mask, xor-by_mask}
use Rattle.arbitrary_laws.proofs.numbers.Conversions.{congruent-by_remainder, difference-left, difference-right, product-left, product-right, signed_primitive, sum-left, sum-right, word_sum-right}
use Rattle.arbitrary_laws.proofs.numbers.QuotientAndCube.{negated-is_difference, power-thrice, power-twice, quotient-times}
use Rattle.arbitrary_laws.proofs.numbers.QuotientOrder.{quotient-beside, quotient-of_parts, quotient-of_product, quotient-of_quotient, quotient-orders, signed_quotient-below, signed_quotient-beside, signed_quotient-by_more, signed_quotient-of_parts, signed_quotient-orders}
use Rattle.arbitrary_laws.proofs.numbers.QuotientParts.{quotient-none, quotient-of_negated, quotient-of_next, quotients-exchanged, quotients-ordered}
use Rattle.arbitrary_laws.proofs.numbers.Remainders.{quotient-with_remainder, signed_quotient-with_remainder}
use Rattle.arbitrary_laws.proofs.numbers.TextLength.{length-of_text}
use Rattle.arbitrary_laws.proofs.numbers.WiderRanges.{greatest-rises, least-falls, power-rises}
use Rattle.arbitrary_laws.proofs.orders.EqualResults.{differences-equal, differences_from-equal, left_rotations-equal, nots-equal, reversals-equal, right_rotations-equal, sums-equal, xors-equal}
use Rattle.arbitrary_laws.proofs.orders.Order.{and-below_or, and-negative, difference-below_xor, ge-tested, gt-tested, le-tested, lt-tested, or-below_clamped, or-below_sum, or-negative, shifted_right-keeps_order, xor-below_or, xor-negative}
use Rattle.arbitrary_laws.proofs.orders.SignedOrder.{and-at_most, or-at_least}
use Rattle.arbitrary_laws.proofs.places.BitPlaces.{bit-cleared, bit-set, bit-turned, bit-written, clear-by_mask, clear-by_shift, low-of_turned, one_bit-some, other-cleared, other-set, other-turned, set-by_mask, set-by_shift}
use Rattle.arbitrary_laws.proofs.places.BitTests.{low-of_right_cleared, low-of_right_other_cleared, low-of_right_other_set, masked-of_other_cleared, masked-of_other_set}
use Rattle.arbitrary_laws.proofs.places.LowestBit.{and-of_difference, front-of_lowest, popcount-of_lowest_cleared}
use Rattle.arbitrary_laws.proofs.places.LowestPlace.{low-of_difference, low-of_product, low-of_sum}
use Rattle.arbitrary_laws.proofs.places.OneBits.{front-of_before, one-turned, one_bits-compared, one_bits-ordered, parts-joined, tail-of_before, tail-of_one_bit, upper-by_mask}
use Rattle.arbitrary_laws.proofs.places.OtherBits.{gone-cleared, other_bit-cleared, other_bit-set, other_bit-turned, same_bit-set, same_bit-turned}
use Rattle.arbitrary_laws.proofs.places.PrimitiveBit.{bit_cleared, bit_cleared-other, bit_set, bit_set-other, bit_tested, bit_turned, bit_turned-other, set_then_cleared}
use Rattle.arbitrary_laws.proofs.places.SingleBit.{and-one_bit, left-of_one, low-of_right, low-of_right_not, low-of_right_set, reversed-one, reversed-one_bit}
use Rattle.arbitrary_laws.proofs.places.VariablePlaces.{low-of_turned_right, reversed_left-converted, set-beside_cleared, turned-beside_cleared}
use Rattle.arbitrary_laws.proofs.rotations.BackRotations.{right-as_left_round}
use Rattle.arbitrary_laws.proofs.rotations.RightRotations.{left_rotations-exchanged, right_rotations-exchanged, rotations-exchanged}
use Rattle.arbitrary_laws.proofs.rotations.RotatedNumber.{rotated_left-number, rotated_right-number}
use Rattle.arbitrary_laws.proofs.rotations.RotationsAndReversals.{left-undoes_right, reversed-highest, reversed-minus_one, reversed-rotated_right, reversed-shifted_right, reversed-twice, right-undoes_left, rotated_left-as_shifts, rotated_left-highest, rotated_left-minus_one, rotated_left-round, rotated_left-twice, rotated_right-and, rotated_right-highest, rotated_right-minus_one, rotated_right-not, rotated_right-not_zero, rotated_right-or, rotated_right-round, rotated_right-twice, rotated_right-xor, rotated_right-zero}
use Rattle.arbitrary_laws.proofs.shifts.Folding.{bitwise_xor-chain, bitwise_xor-exchanged, folded-away, folded-twice, shifted_right-past}
use Rattle.arbitrary_laws.proofs.shifts.FoldingOrder.{folds-exchanged}
use Rattle.arbitrary_laws.proofs.shifts.MovedProducts.{product-of_shifted, product-shifted, shifted_left-exchanged, shifted_left-negated, shifted_right-exchanged}
use Rattle.arbitrary_laws.proofs.shifts.ShiftAndBack.{left_right-mask, left_right-numeral, right_left-mask, right_left-mask_signed, right_left-numeral, right_left-numeral_signed, shifted_left-past, shifted_left-twice, shifted_right-twice}
use Rattle.arbitrary_laws.proofs.shifts.ShiftPairs.{further-at_most, left_right-wraps, nearer-at_least, rotated_left-as_sum, rotated_left-as_xor}
use Rattle.arbitrary_laws.proofs.shifts.Truncations.{and-truncated, difference-truncated, left-truncated, left_rotation-converted, not-truncated, or-truncated, product-truncated, reversal-converted, right_rotation-converted, sum-truncated, xor-truncated}
use Rattle.arbitrary_laws.proofs.signs.Extensions.{and-at_128, or-at_128, primitive_and, primitive_or, primitive_xor, xor-at_128}
use Rattle.arbitrary_laws.proofs.signs.OverflowBits.{difference-overflow_ends, difference-overflow_flag, difference-overflow_sign, sum-overflow_ends, sum-overflow_flag, sum-overflow_sign, xor-sign_differs}
use Rattle.arbitrary_laws.proofs.signs.SignMasks.{absolute-by_double, and-with_all, and-with_none, difference-of_xor, or-with_all, or-with_none, xor-of_sum, xor-with_all, xor-with_none}
use Rattle.arbitrary_laws.proofs.signs.SignTests.{below-by_bits, below-by_overflow, differ-by_sign, ge-by_lt, like-overflow_flag, like-overflow_sign, most-by_bits, not-sign, not_zero-by_sign, positive-by_sign}
use Rattle.arbitrary_laws.proofs.signs.SignWord.{and-by_sign, or-by_sign, sign-spread, xor-by_sign}
use Rattle.arbitrary_laws.proofs.signs.TurnedSigns.{highest-turned_order, highest-turned_order_back, turned-number, turned-order}
use Rattle.arbitrary_laws.proofs.signs.ZigZag.{coded-by_sign}
use Rattle.arbitrary_laws.proofs.steps.RangeNumbers.{last_of-joined, numbers-end, numbers-head}
use Rattle.arbitrary_laws.proofs.steps.StepWords.{difference-step, product-step, sum-step}
use Rattle.arbitrary_laws.proofs.sums.BitsBesideSums.{difference-of_and, sum-of_xor_and, sum-twice}
use Rattle.arbitrary_laws.proofs.sums.Carry.{difference-less_xor, difference-of_parts, difference-with_borrow, or-less_xor, sum-less_and, sum-less_or, sum-less_xor, sum-with_carry}
use Rattle.arbitrary_laws.proofs.sums.Complements.{difference-of_nots, negated-not, not-of_before, sum-of_parts}
use Rattle.arbitrary_laws.proofs.sums.Distances.{apart-above, apart-at_least}
use Rattle.arbitrary_laws.proofs.sums.ExactSums.{difference-converted, difference-exact, difference-left as difference-left_of_ExactSums, difference-of_difference, difference-of_sum as difference-of_sum_of_ExactSums, difference-right as difference-right_of_ExactSums, product-converted, product-exact, sum-converted, sum-exact, sum-left as sum-left_of_ExactSums, sum-of_difference as sum-of_difference_of_ExactSums, sum-of_sum, sum-right as sum-right_of_ExactSums}
use Rattle.arbitrary_laws.proofs.sums.HighestBit.{difference-with_highest, sum-with_highest}
use Rattle.arbitrary_laws.proofs.sums.Multiple.{multiple-before, multiple-next, multiples-added, multiples-apart, sum-doubles, wrapped_product-highest}
use Rattle.arbitrary_laws.proofs.sums.Ring.{difference-of_difference_right, difference-of_squares, difference-of_sum, difference-of_sums, difference-to_difference, difference-turned, negated-sum, product-of_negated, product-of_negated_both, sum-of_difference, sum-of_difference_right, sum-to_difference, wrapped_difference-zero, wrapped_product-one, wrapped_product-two}
use Rattle.arbitrary_laws.proofs.sums.Saturations.{clamped-difference_twice, clamped-differences_exchanged, difference-of_clamped_sum}
use Rattle.arbitrary_laws.proofs.sums.SerialNumbers.{none-apart, step-back, turned-none, turned-of_least, turned-with_sign, turned-without_sign}
use Rattle.arbitrary_laws.proofs.sums.WrappedWords.{word_difference-right, word_sum-after, word_sum-before, word_sum-left, wrap-masked, wrap-remainder, wrap-word_difference}
use Rattle.arbitrary_laws.proofs.words.ApartParts.{apart_parts}
use Rattle.arbitrary_laws.proofs.words.JoinedReads.{joined_reads}
use Rattle.arbitrary_laws.proofs.words.LowestZeros.{lowest_by_zeros}
use Rattle.arbitrary_laws.proofs.words.MergedParts.{merges}
use Rattle.arbitrary_laws.proofs.words.Multiples.{multiples}
use Rattle.arbitrary_laws.proofs.words.OverflowFlags.{one_bits}
use Rattle.arbitrary_laws.proofs.words.WrittenMasks.{and_none, and_runs, differing, differing_above, written_masks}
use Rattle.arbitrary_laws.proofs.written.AnyWidth.{negative-in_range, number-in_range, number-in_range_signed}
use Rattle.arbitrary_laws.proofs.written.KnownBytes.{bytes-of_negative, bytes-of_positive}
use Rattle.arbitrary_laws.proofs.written.KnownCount.{popcount-of_numeral}
use Rattle.arbitrary_laws.proofs.written.KnownEnds.{front-of_negative, front_ones-of_negative, front_ones-of_numeral, popcount-of_negative, tail_ones-of_negative, tail_ones-of_numeral}
use Rattle.arbitrary_laws.proofs.written.KnownNumbers.{and-of_negative, and-of_positive, and-with_negative, left-of_negative, left-of_positive, not-of_negative, not-of_positive, or-of_negative, or-of_positive, or-with_negative, reversed-of_negative, reversed-of_positive, right-of_negative, right-of_positive, rotated_left-of_negative, rotated_left-of_positive, rotated_right-of_negative, rotated_right-of_positive, signed_wrap-of_negative, signed_wrap-of_positive, wrap-of_negative, wrap-of_positive, xor-of_negative, xor-of_positive, xor-with_negative}
use Rattle.arbitrary_laws.proofs.written.PositiveParts.{and-of_positive_or, and-positive, or-of_positive_parts, or-positive, xor-of_positive_parts, xor-positive}
use Rattle.arbitrary_laws.proofs.written.PositiveResults.{and-of_positive_xor, product-of_positive, sum-of_positive}
use Rattle.arbitrary_laws.proofs.written.WrittenParts.{and-of_written_or, and-written, or-of_written_parts, or-written, xor-of_written_parts, xor-written}
use Rattle.std.proofs.Math.Nat.{mod_self}
use Rattle.std.proofs.lemmas.Bool.Decides.{Decides-eqb, Decides-int_eq}
use Rattle.std.proofs.lemmas.Grind.{and_numeral, one_shifted, or_after_shift}
use Rattle.std.proofs.lemmas.Int.{ints}
use Rattle.std.proofs.lemmas.List.{map-id, reverse-reverse}
use Rattle.std.specs.Cmp.Rules.{signed_items}

-- `&`, `|`, `^`, `!`, shifts, rotations, reversals, counts, sums that wrap, orders and conversions, on any numbers
pub ruleset bits = (Decides-int_eq, bitwise_and-commutes, bitwise_and-associates, bitwise_and-same, bitwise_and-zero, bitwise_and-highest, bitwise_and-minus_one, bitwise_and-not_zero, bitwise_and-complement, bitwise_or-commutes, bitwise_or-associates, bitwise_or-same, bitwise_or-zero, bitwise_or-highest, bitwise_or-minus_one, bitwise_or-not_zero, bitwise_or-complement, bitwise_xor-commutes, bitwise_xor-associates, bitwise_xor-same, bitwise_xor-zero, bitwise_xor-highest, bitwise_xor-minus_one, bitwise_xor-not_zero, bitwise_xor-undoes, bitwise_xor-equal, bitwise_not-twice, bitwise_not-zero, bitwise_not-zero_signed, and-absorbs, or-absorbs, not-and_parts, not-or_parts, not-xor_left, and-compared, or-compared, xor-compared, not-compared, compared-and, compared-or, compared-xor, compared-not, bit_near-and, bit_near-or, bit_near-xor, bit_near-not, bit_near-zero, bit_near-highest, bit_near-minus_one, and_not-none, or-unchanged, or-equal_xor, xor-equal_or, xor-unchanged, xor-none, or-none, and-minus_one, and-highest, shifted_left-none, shifted_left-zero, shifted_left-twice, shifted_left-past, shifted_left-sum, shifted_left-difference, shifted_left-and, shifted_left-or, shifted_left-xor, sum-twice, shifted_right-none, shifted_right-zero, shifted_right-twice, shifted_right-and, shifted_right-or, shifted_right-xor, right_left-mask, right_left-mask_signed, right_left-mask_not, left_right-mask, left_right-mask_not, shifted_right-not, right_left-numeral, right_left-numeral_signed, left_right-numeral, left_right-wraps, wrap-of_in_range, rotated_left-none, rotated_left-twice, rotated_left-round, rotated_left-zero, rotated_left-highest, rotated_left-minus_one, rotated_left-not_zero, rotated_left-and, rotated_left-or, rotated_left-xor, rotated_left-not, rotated_right-none, rotated_right-as_left, right-undoes_left, left-undoes_right, reversed-zero, reversed-highest, reversed-minus_one, reversed-not_zero, reversed-and, reversed-or, reversed-xor, reversed-not, reversed-twice, reversed-rotated_left, reversed-rotated_right, reversed-shifted_left, reversed-shifted_right, reversed-one, reversed-one_bit, wrapped_sum-commutes, wrapped_sum-associates, wrapped_sum-zero, wrapped_difference-self, wrapped_difference-zero, difference-of_sum, difference-of_sum_left, sum-of_difference, sum-to_difference, difference-to_difference, difference-twice, difference-turned, negated-twice, negated-sum, sum-of_difference_right, difference-of_difference_right, difference-of_sums, wrapped_product-commutes, wrapped_product-associates, wrapped_product-zero, wrapped_product-one, wrapped_product-two, products-of_sums, products-of_differences, product-of_sum, product-of_difference, product-of_negated, product-of_negated_both, shifted_left-is_product, difference-of_squares, wrapped_product-highest, negated-is_difference, or-of_parts, sum-of_parts, choice-is_xor, and-or_of_not, or-and_of_not, majority-is_xor, not-of_before, sum-with_not, difference-of_or, difference-of_and, negated-not, not-of_sum, not-of_difference, difference-of_nots, sum-of_or_and, sum-of_disjoint, sum-of_xor_and, difference-of_or_and, sum-with_carry, sum-less_xor, sum-less_or, sum-less_and, difference-of_parts, difference-with_borrow, difference-less_xor, or-less_xor, sum-with_highest, difference-with_highest, le-tested, lt-tested, ge-tested, gt-tested, or-above, and-below_or, xor-below_or, or-below_sum, or-below_clamped, difference-below_xor, shifted_right-keeps_order, and-negative, or-negative, xor-negative, further-at_most, nearer-at_least, sums-equal, differences-equal, differences_from-equal, xors-equal, nots-equal, reversals-equal, left_rotations-equal, right_rotations-equal, popcount-of_zero, popcount-of_highest, popcount-of_minus_one, popcount-of_not, popcount-of_reversed, popcount-of_left, popcount-of_right, zero-of_no_ones, no_ones-of_zero, front-of_zero, front-of_not_zero, front-of_highest, front_ones-of_not, front_zeros-of_not, tail-of_zero, tail-of_not_zero, tail-of_highest, tail_ones-of_not, tail_zeros-of_not, tail-of_reversed, front-of_reversed, popcount-of_and, popcount-of_and_or, popcount-of_or, power-zero, power-one, power-twice, quotient-self, to_u128_bits-back, clamp-fits, power-of_one, power-of_zero, multiples-added, multiples-apart, multiple-next, multiple-before, sum-doubles, rotated_right-twice, rotated_right-round, rotated_right-zero, rotated_right-highest, rotated_right-minus_one, rotated_right-not_zero, rotated_right-and, rotated_right-or, rotated_right-xor, rotated_right-not, right_rotations-exchanged, left_rotations-exchanged, rotations-exchanged, shifted_left-negated, shifted_left-exchanged, shifted_right-exchanged, product-of_shifted, product-shifted, wrap-wide, and-truncated, or-truncated, xor-truncated, not-truncated, sum-truncated, difference-truncated, product-truncated, left-truncated, left_rotation-converted, right_rotation-converted, reversal-converted, and-at_128, or-at_128, xor-at_128, shifted_right-is_shr, primitive_and, primitive_or, primitive_xor, low-of_sum, low-of_difference, low-of_product, front-of_or, tail-of_or, front_ones-of_and, tail_ones-of_and, front-of_and, tail-of_and, front_ones-of_or, tail_ones-of_or, front-of_xor, tail-of_xor, front-of_left, tail-of_right, front-of_right, tail-of_left, tail-of_numeral, leading-of_primitive, zeros-at_least, zeros-below, popcount-of_lowest_cleared, front-of_lowest, popcount-of_one_bit, front-of_one_bit, and-of_difference, popcount-of_below, popcount-to_lowest, popcount-filled, popcount-of_lowest, tail-of_one_bit, front-of_before, tail-of_before, popcount-of_xor, popcount-of_and_not, front-of_numeral, popcount-of_numeral, popcount-of_shifted_left, popcount-of_shifted_right, front-of_shifted_left, tail-of_shifted_right, front_zeros-beside_ones, tail_zeros-beside_ones, front_ones-below_ones, tail_ones-below_ones, front-alike_one, tail-alike_one, zeros-of_multiples, multiples-by_zeros, sum-overflow_ends, difference-overflow_ends, sum-overflow_flag, difference-overflow_flag, xor-sign_differs, highest-turned_order, highest-turned_order_back, set-unless_clear, sum-of_positive, product-of_positive, and-of_positive_xor, signed_items, or-less_and, either-alone, without-shared, xor-and_shared, alone-added, alone-summed, not-added, not-taken, negated-added, negated-less_one, not-and_one, next-negated, shifts-joined, shifts-under_xor, shifts-added, and-positive, or-positive, xor-positive, or-of_positive_parts, xor-of_positive_parts, and-of_positive_or)

-- written masks, flags, and one bit at its place: set, cleared, turned over and tested
pub ruleset masks = (Decides-int_eq, and-digits, and-digits_signed, and-run, and-congruent, and-multiple, and-multiple_by_negative, and-within, and-below, and-by_complement, and-by_negative, or-by_and, xor-by_and, and-of_cleared, and-of_set, own_bits-in_range, and-none, or-by_mask, xor-by_mask, and-of_cleared_by_negative, and-written, or-written, xor-written, or-of_written_parts, xor-of_written_parts, and-of_written_or, bitwise_and-highest, bitwise_and-zero, bitwise_and-minus_one, bitwise_or-zero, bitwise_xor-zero, sum-masked_left, sum-masked_right, difference-masked_left, difference-masked_right, product-masked_left, product-masked_right, left-masked_away, sum-past_left, sum-past_right, or-past, xor-past, bitwise_or-commutes, bitwise_xor-commutes, flags-compared, set-by_flag, clear-by_flag, set-by_shift, clear-by_shift, bit-or, bit-and, bit-xor, bit-not, bit-written, set-unless_clear, left-of_one, and-one_bit, low-of_right, low-of_right_set, low-of_right_cleared, low-of_right_other_set, low-of_right_other_cleared, masked-of_other_set, masked-of_other_cleared, low-of_right_not, low-of_turned, same_bit-set, other_bit-set, gone-cleared, other_bit-cleared, same_bit-turned, other_bit-turned, set-by_mask, clear-by_mask, bit-set, bit-cleared, bit-turned, other-set, other-cleared, other-turned, one_bit-some, xor-unchanged, one_bits-compared, one_bits-ordered, one-turned, upper-by_mask, parts-joined, low-of_sum, low-of_difference, low-of_product, and-distributes_xor, and-distributes_or, bitwise_and-associates, bitwise_and-commutes, or-of_parts, sum-of_parts, choice-is_xor, and-or_of_not, or-and_of_not, xor-is_or, and_not-is_xor, or-is_xor, majority-is_xor)

-- shifts and rotations, also by an amount that varies, and the masks that they make
pub ruleset shifts = (Decides-int_eq, rotated_right-none, rotated_right-twice, rotated_right-round, rotated_right-zero, rotated_right-highest, rotated_right-minus_one, rotated_right-not_zero, rotated_right-and, rotated_right-or, rotated_right-xor, rotated_right-not, right_rotations-exchanged, left_rotations-exchanged, rotations-exchanged, left-undoes_right, right-undoes_left, reversed-rotated_left, reversed-rotated_right, right_rotations-equal, popcount-of_right, not-of_highest, not-of_minus_one, bitwise_not-zero, bitwise_not-zero_signed, right-of_highest, low-exact, and-not_low, low-joined, low-turned, without-low, low-again, low-wrapped, parts-wrapped, right-again, and-highest_moved, and-minus_one_moved, right-of_masked, right-of_masked_signed, right-of_low, left-of_low, low-of_left, bitwise_or-commutes, bitwise_xor-commutes, lt-tested, le-tested, left-of_one, and-low, rest-in_range, parts-in_range, parts-exact, rest-rounds, shifted_left-negated, shifted_left-exchanged, shifted_right-exchanged, product-of_shifted, product-shifted, wrapped_product-one, wrapped_product-commutes, set-beside_cleared, turned-beside_cleared, low-of_turned_right, reversed_left-converted, left-truncated, shifted_right-is_shr, shifted_left-none, shifted_left-zero, shifted_left-twice, shifted_left-past, shifted_left-sum, shifted_left-difference, shifted_left-and, shifted_left-or, shifted_left-xor, sum-twice, shifted_right-none, shifted_right-zero, shifted_right-twice, shifted_right-and, shifted_right-or, shifted_right-xor, right_left-mask, right_left-mask_signed, right_left-mask_not, left_right-mask, left_right-mask_not, shifted_right-not, right_left-numeral, right_left-numeral_signed, left_right-numeral, left_right-wraps, wrap-of_in_range, bitwise_xor-zero, bitwise_xor-undoes, bitwise_xor-chain, bitwise_xor-exchanged, shifted_right-past, folded-twice, folded-away, folds-exchanged, rotated_left-none, rotated_left-twice, rotated_left-round, rotated_left-zero, rotated_left-highest, rotated_left-minus_one, rotated_left-not_zero, rotated_left-and, rotated_left-or, rotated_left-xor, rotated_left-not, rotated_right-as_left, reversed-zero, reversed-highest, reversed-minus_one, reversed-not_zero, reversed-and, reversed-or, reversed-xor, reversed-not, reversed-twice, reversed-shifted_left, reversed-shifted_right, rotated_left-as_shifts, rotated_left-as_xor, rotated_left-as_sum, reversed-one, reversed-one_bit, wrapped_sum-commutes, rotated_left-number, rotated_right-number, and-digits, right-as_left_round)

-- the sign of a number: as a mask and in bits, overflows, and a number with its sign turned over
pub ruleset signs = (Decides-int_eq, sign-spread, and-with_all, and-with_none, or-with_all, or-with_none, xor-with_all, xor-with_none, xor-of_sum, difference-of_xor, absolute-by_double, bitwise_xor-undoes, bitwise_xor-commutes, bitwise_and-commutes, bitwise_or-commutes, le-tested, lt-tested, ge-tested, gt-tested, ge-by_lt, and-negative, or-negative, xor-negative, not-sign, below-by_bits, below-by_overflow, most-by_bits, not_zero-by_sign, positive-by_sign, differ-by_sign, like-overflow_flag, sum-overflow_sign, difference-overflow_sign, like-overflow_sign, sum-overflow_ends, difference-overflow_ends, sum-overflow_flag, difference-overflow_flag, xor-sign_differs, xor-by_sign, and-by_sign, or-by_sign, and-by_complement, turned-number, turned-order, highest-turned_order, highest-turned_order_back, coded-by_sign)

-- `<`, `<=` and `==` of results, with bits, exact sums and clamped results
pub ruleset orders = (Decides-int_eq, le-tested, lt-tested, ge-tested, gt-tested, or-above, and-below_or, xor-below_or, or-below_sum, or-below_clamped, difference-below_xor, shifted_right-keeps_order, and-negative, or-negative, xor-negative, bitwise_and-commutes, bitwise_or-commutes, bitwise_xor-commutes, further-at_most, nearer-at_least, within-at_most, and-at_most, or-at_least, sums-equal, differences-equal, differences_from-equal, xors-equal, nots-equal, reversals-equal, left_rotations-equal, right_rotations-equal, wrapped_sum-commutes, ints, or-by_and, xor-by_and, and-by_complement, or-at_most_sum, xor-at_most_sum, clamped-difference_twice, clamped-differences_exchanged, difference-of_clamped_sum, clamp-fits, clamp-below, clamp-above, and_not-none, or-unchanged, or-equal_xor, xor-equal_or, xor-unchanged, xor-none, bitwise_and-same, or-none, and-minus_one, and-highest)

-- conversions, quotients, remainders, small powers, and calls on written numbers
pub ruleset numbers = (wrap-of_in_range, wrap-congruent, wrap-wrap, clamp-fits, length-bits, num-bits_residue, val-bits_in_range, in_range-decides, sums-associate, or_three, signed_primitive, sum-right, sum-left, difference-right, difference-left, product-right, product-left, word_sum-right, congruent-by_remainder, Decides-int_eq, wrap-wide, and-truncated, or-truncated, xor-truncated, not-truncated, sum-truncated, difference-truncated, product-truncated, left-truncated, left_rotation-converted, right_rotation-converted, reversal-converted, and-at_128, or-at_128, xor-at_128, shifted_right-is_shr, primitive_and, primitive_or, primitive_xor, sum-exact, difference-exact, product-exact, sum-left_of_ExactSums, sum-right_of_ExactSums, difference-left_of_ExactSums, difference-right_of_ExactSums, sum-converted, difference-converted, product-converted, sum-of_sum, sum-of_difference_of_ExactSums, difference-of_sum_of_ExactSums, difference-of_difference, quotient-beside, quotient-orders, quotient-of_product, quotient-of_quotient, signed_quotient-beside, signed_quotient-below, signed_quotient-orders, signed_quotient-by_more, quotient-of_parts, signed_quotient-of_parts, lt-tested, le-tested, quotient-none, quotient-of_next, quotients-exchanged, quotient-of_negated, quotients-ordered, ints, gt-tested, ge-tested, signed_quotient-with_remainder, quotient-with_remainder, power-zero, power-one, power-twice, power-thrice, quotient-self, quotient-times, wrap-of_positive, wrap-of_negative, signed_wrap-of_positive, signed_wrap-of_negative, and-of_positive, or-of_positive, xor-of_positive, not-of_positive, left-of_positive, right-of_positive, rotated_left-of_positive, rotated_right-of_positive, reversed-of_positive, and-of_negative, or-of_negative, xor-of_negative, not-of_negative, left-of_negative, right-of_negative, rotated_left-of_negative, rotated_right-of_negative, reversed-of_negative, and-with_negative, or-with_negative, xor-with_negative, popcount-of_numeral, popcount-of_negative, front-of_numeral, front-of_negative, front_ones-of_numeral, front_ones-of_negative, tail-of_numeral, tail_ones-of_negative, tail_ones-of_numeral, bytes-of_positive, bytes-of_negative, number-in_range, number-in_range_signed, negative-in_range, mod_self, apart-at_least, apart-above, turned-none, turned-with_sign, turned-of_least, turned-without_sign, step-back, none-apart, least-falls, greatest-rises, power-rises)

-- register words of primitives: any expression of `&`, `|`, `^`, `!`, shifts, rotations and conversions over written masks is a sum of fields. The
-- laws compute on the masks, so none of them says how many fields there are, or how wide they are
pub ruleset words = (written_masks, apart_parts, multiples, merges, lowest_by_zeros, rotated_left-number, rotated_right-number, ints)

-- words of a `UInt` with fewer laws, and each field read by itself. With all laws of `words` these take the search to its limits
pub ruleset uint_words = (and_runs, and_none, differing, differing_above, apart_parts, joined_reads, joined_first, joined_next, rotated_left-number, rotated_right-number)

-- carry, overflow and borrow by one bit of a primitive or a `UInt`
pub ruleset overflow_flags = (one_bits, ints)

-- words of fields and flags: joined, written in place, read back, with a sign, with conversions
pub ruleset fields = (or_next, or_after_shift, or_above, or_above_numeral, numeral_next, or_numeral_first, or_numeral_last, or_numeral_between, or_masked, and_above, and_numeral, ints, Decides-eqb, Decides-int_eq, and_beside, and_around, or_into_hole, or_flags, or_moved_in, or_moved_above, xor_flags, or-into_cleared, and-by_complement, and-digits, one_shifted, pos-unsigned_abs, bit_tested, bit_set, bit_set-other, bit_turned, bit_turned-other, bit_cleared, bit_cleared-other, set_then_cleared, Borsh-size, number-of_Borsh, number-of_Borsh_signed, first-of_Borsh, first-of_Borsh_signed, reverse-reverse, signed_items, length-of_text, numbers-head, last_of-joined, numbers-end, numbers-count, with_field-of_nothing, and-digits_signed, and-run, and-congruent, and-multiple, and-multiple_by_negative, and-within, and-below, and-by_negative, or-by_and, xor-by_and, and-of_cleared, and-of_set, own_bits-in_range, wrap-congruent, signed_primitive, sum-right, sum-left, difference-right, difference-left, product-right, product-left, word_sum-right, congruent-by_remainder, wrap-of_in_range, wrap-wrap, clamp-fits, length-bits, num-bits_residue, val-bits_in_range, in_range-decides, sums-associate, or_three, wrap-remainder, wrap-masked, word_sum-left, word_sum-before, word_sum-after, word_difference-right, wrap-word_difference, lowest_field, lowest_field-wrapped, or_below_flag, signed-of_bits, signed-of_unsigned, unsigned-of_signed, bits-of_signed, written-congruent, bitwise_and-complement, field_cleared, field_written, placed-written)

-- streams, byte orders and texts
pub ruleset bytes = (Borsh-size, number-of_Borsh, number-of_Borsh_signed, first-of_Borsh, first-of_Borsh_signed, reverse-reverse, bytes-compared, bytes-converted, Decides-int_eq, bytes-spell, bytes-spell_signed, reverse-back, swapped-is, popcount-of_swapped, swapped-not, swapped-reversed, swapped-twice, swapped-equal, swapped-and, swapped-or, swapped-xor, length-of_text, bytes-of_positive, bytes-of_negative, wrap-of_positive, wrap-of_negative, signed_wrap-of_positive, signed_wrap-of_negative)

-- lists of steps, ranges, and lists of these integers
pub ruleset steps = (map-id, wrap-of_in_range, wrap-congruent, clamp-fits, clamp-below, clamp-above, in_range-decides, sum-step, difference-step, product-step, wrap-of_positive, wrap-of_negative, signed_wrap-of_positive, signed_wrap-of_negative, and-of_positive, or-of_positive, xor-of_positive, not-of_positive, left-of_positive, right-of_positive, rotated_left-of_positive, rotated_right-of_positive, reversed-of_positive, and-of_negative, or-of_negative, xor-of_negative, not-of_negative, left-of_negative, right-of_negative, rotated_left-of_negative, rotated_right-of_negative, reversed-of_negative, and-with_negative, or-with_negative, xor-with_negative, Decides-int_eq, numbers-head, last_of-joined, numbers-end, numbers-count, signed_items)
