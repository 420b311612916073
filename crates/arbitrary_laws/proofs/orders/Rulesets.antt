-- The small sets of this folder, each for one kind of goal. Sets.antt has the public set of the topic.
use Rattle.arbitrary_base.proofs.operations.BitsAndSums.{or-above}
use Rattle.arbitrary_base.proofs.operations.Bitwise.{bitwise_and-commutes, bitwise_or-commutes, bitwise_xor-commutes}
use Rattle.arbitrary_base.proofs.operations.WrappedRing.{wrapped_sum-commutes}
use Rattle.arbitrary_laws.proofs.masks.MaskTests.{within-at_most}
use Rattle.arbitrary_laws.proofs.orders.EqualResults.{differences-equal, differences_from-equal, left_rotations-equal, nots-equal, reversals-equal, right_rotations-equal, sums-equal, xors-equal}
use Rattle.arbitrary_laws.proofs.orders.Order.{and-below_or, and-negative, difference-below_xor, ge-tested, gt-tested, le-tested, lt-tested, or-below_clamped, or-below_sum, or-negative, shifted_right-keeps_order, xor-below_or, xor-negative}
use Rattle.arbitrary_laws.proofs.orders.SignedOrder.{and-at_most, or-at_least}
use Rattle.arbitrary_laws.proofs.shifts.ShiftPairs.{further-at_most, nearer-at_least}
use Rattle.std.proofs.lemmas.Bool.Decides.{Decides-int_eq}

-- the order: what its tests say, with bits, shifts and signs
pub ruleset order = (Decides-int_eq, le-tested, lt-tested, ge-tested, gt-tested, or-above, and-below_or, xor-below_or, or-below_sum, or-below_clamped, difference-below_xor, shifted_right-keeps_order, and-negative, or-negative, xor-negative, bitwise_and-commutes, bitwise_or-commutes, bitwise_xor-commutes, further-at_most, nearer-at_least, within-at_most)

-- the order of a signed number and its `&` or `|` with another
pub ruleset signed_order = (le-tested, lt-tested, ge-tested, gt-tested, and-at_most, or-at_least, bitwise_and-commutes, bitwise_or-commutes)

-- an operand that both sides of a test of equality have
pub ruleset cancellations = (Decides-int_eq, sums-equal, differences-equal, differences_from-equal, xors-equal, nots-equal, reversals-equal, left_rotations-equal, right_rotations-equal, wrapped_sum-commutes, bitwise_xor-commutes)
