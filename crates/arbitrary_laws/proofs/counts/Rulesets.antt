-- The small sets of this folder, each for one kind of goal. Sets.antt has the public set of the topic.
use Rattle.arbitrary_base.proofs.operations.PopulationAndRuns.{front-of_reversed, front_ones-of_not, front_zeros-of_not, popcount-of_and, popcount-of_and_or, popcount-of_left, popcount-of_not, popcount-of_reversed, popcount-of_zero, tail-of_reversed, tail_ones-of_not, tail_zeros-of_not}
use Rattle.arbitrary_calls.proofs.counts.EndCounts.{front-of_highest, front-of_zero, no_ones-of_zero, popcount-of_highest, popcount-of_minus_one, tail-of_highest, tail-of_zero, zero-of_no_ones}
use Rattle.arbitrary_laws.proofs.bits.Identities.{bitwise_not-zero, bitwise_not-zero_signed}
use Rattle.arbitrary_laws.proofs.counts.CountBounds.{front-of_numeral}
use Rattle.arbitrary_laws.proofs.counts.LeadingZeros.{tail-of_numeral}
use Rattle.arbitrary_laws.proofs.counts.Population.{front-of_not_zero, popcount-of_or, popcount-of_right, tail-of_not_zero}
use Rattle.arbitrary_laws.proofs.written.KnownCount.{popcount-of_numeral}
use Rattle.arbitrary_laws.proofs.written.KnownEnds.{front-of_negative, front_ones-of_negative, front_ones-of_numeral, popcount-of_negative, tail_ones-of_negative, tail_ones-of_numeral}
use Rattle.std.proofs.lemmas.Bool.Decides.{Decides-int_eq}

-- counts of bits
pub ruleset counts = (Decides-int_eq, popcount-of_zero, popcount-of_highest, popcount-of_minus_one, popcount-of_not, popcount-of_reversed, popcount-of_left, popcount-of_right, zero-of_no_ones, no_ones-of_zero, front-of_zero, front-of_not_zero, front-of_highest, front_ones-of_not, front_zeros-of_not, tail-of_zero, tail-of_not_zero, tail-of_highest, tail_ones-of_not, tail_zeros-of_not, tail-of_reversed, front-of_reversed, bitwise_not-zero, bitwise_not-zero_signed, popcount-of_and, popcount-of_and_or, popcount-of_or)

-- how many bits of a number that is written out are one, and how many at its ends are alike
pub ruleset known_counts = (popcount-of_numeral, popcount-of_negative, front-of_numeral, front-of_negative, front_ones-of_numeral, front_ones-of_negative, tail-of_numeral, tail_ones-of_negative, tail_ones-of_numeral)
