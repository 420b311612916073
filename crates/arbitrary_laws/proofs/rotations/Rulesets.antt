-- The small sets of this folder, each for one kind of goal. Sets.antt has the public set of the topic.
use Rattle.arbitrary_base.proofs.operations.Bitwise.{bitwise_or-commutes, bitwise_xor-commutes}
use Rattle.arbitrary_base.proofs.operations.RotateAndReverse.{reversed-and, reversed-not, reversed-not_zero, reversed-or, reversed-rotated_left, reversed-shifted_left, reversed-xor, reversed-zero, rotated_left-and, rotated_left-none, rotated_left-not, rotated_left-not_zero, rotated_left-or, rotated_left-xor, rotated_left-zero, rotated_right-as_left, rotated_right-none}
use Rattle.arbitrary_base.proofs.operations.WrappedRing.{wrapped_sum-commutes}
use Rattle.arbitrary_laws.proofs.masks.NumberUnderMask.{and-digits}
use Rattle.arbitrary_laws.proofs.places.SingleBit.{reversed-one, reversed-one_bit}
use Rattle.arbitrary_laws.proofs.rotations.RotatedNumber.{rotated_left-number, rotated_right-number}
use Rattle.arbitrary_laws.proofs.rotations.RotationsAndReversals.{left-undoes_right, reversed-highest, reversed-minus_one, reversed-rotated_right, reversed-shifted_right, reversed-twice, right-undoes_left, rotated_left-as_shifts, rotated_left-highest, rotated_left-minus_one, rotated_left-round, rotated_left-twice}
use Rattle.arbitrary_laws.proofs.shifts.ShiftPairs.{rotated_left-as_sum, rotated_left-as_xor}
use Rattle.std.proofs.lemmas.Bool.Decides.{Decides-int_eq}

-- rotations
pub ruleset rotations = (Decides-int_eq, rotated_left-none, rotated_left-twice, rotated_left-round, rotated_left-zero, rotated_left-highest, rotated_left-minus_one, rotated_left-not_zero, rotated_left-and, rotated_left-or, rotated_left-xor, rotated_left-not, rotated_right-none, rotated_right-as_left, right-undoes_left, left-undoes_right)

-- the reversal, also of one bit, and a rotation as two shifts joined by `|`, `^` or a sum
pub ruleset reversals = (Decides-int_eq, reversed-zero, reversed-highest, reversed-minus_one, reversed-not_zero, reversed-and, reversed-or, reversed-xor, reversed-not, reversed-twice, reversed-rotated_left, reversed-rotated_right, reversed-shifted_left, reversed-shifted_right, rotated_left-as_shifts, bitwise_or-commutes, rotated_right-as_left, rotated_left-as_xor, rotated_left-as_sum, reversed-one, reversed-one_bit, bitwise_xor-commutes, wrapped_sum-commutes)

-- what a rotation makes of a number from 0 up, by quotient and remainder, also under a written mask
pub ruleset rotated_numbers = (rotated_left-number, rotated_right-number, and-digits)
