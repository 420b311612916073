-- All laws of shifts and rotations by variable amounts, which RightRotations.antt, VariableMasks.antt,
-- MovedProducts.antt and VariablePlaces.antt have by topic. It also has a left shift before a conversion to a
-- narrower type, and a right shift as a quotient, which a wider type contains. Callers name the set
-- `variable_amounts`.
use Rattle.std.proofs.lemmas.Bool.Decides.{Decides-int_eq}
use Rattle.arbitrary_base.proofs.operations.Bitwise.{bitwise_or-commutes, bitwise_xor-commutes}
use Rattle.arbitrary_base.proofs.operations.RotateAndReverse.{reversed-rotated_left, rotated_right-none}
use Rattle.arbitrary_base.proofs.operations.Shift.{shifted_right-is_shr}
use Rattle.arbitrary_base.proofs.operations.WrappedRing.{wrapped_product-commutes}
use Rattle.arbitrary_laws.proofs.bits.Identities.{bitwise_not-zero, bitwise_not-zero_signed}
use Rattle.arbitrary_laws.proofs.counts.Population.{popcount-of_right}
use Rattle.arbitrary_laws.proofs.masks.VariableMasks.{and-highest_moved, and-low, and-minus_one_moved, and-not_low, left-of_low, low-again, low-exact, low-joined, low-of_left, low-turned, low-wrapped, not-of_highest, not-of_minus_one, parts-exact, parts-in_range, parts-wrapped, rest-in_range, rest-rounds, right-again, right-of_highest, right-of_low, right-of_masked, right-of_masked_signed, without-low}
use Rattle.arbitrary_laws.proofs.orders.EqualResults.{right_rotations-equal}
use Rattle.arbitrary_laws.proofs.orders.Order.{le-tested, lt-tested}
use Rattle.arbitrary_laws.proofs.places.SingleBit.{left-of_one}
use Rattle.arbitrary_laws.proofs.places.VariablePlaces.{low-of_turned_right, reversed_left-converted, set-beside_cleared, turned-beside_cleared}
use Rattle.arbitrary_laws.proofs.rotations.RightRotations.{left_rotations-exchanged, right_rotations-exchanged, rotations-exchanged}
use Rattle.arbitrary_laws.proofs.rotations.RotationsAndReversals.{left-undoes_right, reversed-rotated_right, right-undoes_left, rotated_right-and, rotated_right-highest, rotated_right-minus_one, rotated_right-not, rotated_right-not_zero, rotated_right-or, rotated_right-round, rotated_right-twice, rotated_right-xor, rotated_right-zero}
use Rattle.arbitrary_laws.proofs.shifts.MovedProducts.{product-of_shifted, product-shifted, shifted_left-exchanged, shifted_left-negated, shifted_right-exchanged}
use Rattle.arbitrary_laws.proofs.shifts.Truncations.{left-truncated}
use Rattle.arbitrary_laws.proofs.sums.Ring.{wrapped_product-one}

pub ruleset variable_amounts = (Decides-int_eq, rotated_right-none, rotated_right-twice, rotated_right-round, rotated_right-zero, rotated_right-highest, rotated_right-minus_one, rotated_right-not_zero, rotated_right-and, rotated_right-or, rotated_right-xor, rotated_right-not, right_rotations-exchanged, left_rotations-exchanged, rotations-exchanged, left-undoes_right, right-undoes_left, reversed-rotated_left, reversed-rotated_right, right_rotations-equal, popcount-of_right, not-of_highest, not-of_minus_one, bitwise_not-zero, bitwise_not-zero_signed, right-of_highest, low-exact, and-not_low, low-joined, low-turned, without-low, low-again, low-wrapped, parts-wrapped, right-again, and-highest_moved, and-minus_one_moved, right-of_masked, right-of_masked_signed, right-of_low, left-of_low, low-of_left, bitwise_or-commutes, bitwise_xor-commutes, lt-tested, le-tested, left-of_one, and-low, rest-in_range, parts-in_range, parts-exact, rest-rounds, shifted_left-negated, shifted_left-exchanged, shifted_right-exchanged, product-of_shifted, product-shifted, wrapped_product-one, wrapped_product-commutes, set-beside_cleared, turned-beside_cleared, low-of_turned_right, reversed_left-converted, left-truncated, shifted_right-is_shr)
