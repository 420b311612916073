-- The small sets of this folder, each for one kind of goal. Sets.antt has the public set of the topic.
use Rattle.arbitrary_base.proofs.modular.Residue.{wrap-of_in_range}
use Rattle.arbitrary_base.proofs.operations.Shift.{left_right-mask_not, right_left-mask_not, shifted_left-and, shifted_left-difference, shifted_left-none, shifted_left-or, shifted_left-sum, shifted_left-xor, shifted_left-zero, shifted_right-and, shifted_right-none, shifted_right-not, shifted_right-or, shifted_right-xor, shifted_right-zero}
use Rattle.arbitrary_laws.proofs.bits.Identities.{bitwise_not-zero, bitwise_not-zero_signed, bitwise_xor-undoes, bitwise_xor-zero}
use Rattle.arbitrary_laws.proofs.shifts.Folding.{bitwise_xor-chain, bitwise_xor-exchanged, folded-away, folded-twice, shifted_right-past}
use Rattle.arbitrary_laws.proofs.shifts.ShiftAndBack.{left_right-mask, left_right-numeral, right_left-mask, right_left-mask_signed, right_left-numeral, right_left-numeral_signed, shifted_left-past, shifted_left-twice, shifted_right-twice}
use Rattle.arbitrary_laws.proofs.shifts.ShiftPairs.{left_right-wraps}
use Rattle.arbitrary_laws.proofs.sums.BitsBesideSums.{sum-twice}
use Rattle.std.proofs.lemmas.Bool.Decides.{Decides-int_eq}

-- shifts, also left and back
pub ruleset shifts = (Decides-int_eq, shifted_left-none, shifted_left-zero, shifted_left-twice, shifted_left-past, shifted_left-sum, shifted_left-difference, shifted_left-and, shifted_left-or, shifted_left-xor, sum-twice, shifted_right-none, shifted_right-zero, shifted_right-twice, shifted_right-and, shifted_right-or, shifted_right-xor, right_left-mask, right_left-mask_signed, right_left-mask_not, left_right-mask, left_right-mask_not, bitwise_not-zero, bitwise_not-zero_signed, shifted_right-not, right_left-numeral, right_left-numeral_signed, left_right-numeral, left_right-wraps, wrap-of_in_range)

-- a number under `^` with itself shifted
pub ruleset shifted_xors = (Decides-int_eq, bitwise_xor-zero, bitwise_xor-undoes, bitwise_xor-chain, bitwise_xor-exchanged, shifted_right-xor, shifted_right-twice, shifted_right-past, shifted_left-xor, shifted_left-twice, shifted_left-past)

-- the same once more, by as many places: Gray codes
pub ruleset folds = (Decides-int_eq, folded-twice, folded-away)
