-- The small sets of this folder, each for one kind of goal. Sets.antt has the public set of the topic.
use Rattle.arbitrary_base.proofs.integers.Ring.{pos-unsigned_abs}
use Rattle.arbitrary_laws.proofs.bits.OwnBits.{own_bits-in_range}
use Rattle.arbitrary_laws.proofs.masks.NumberUnderMask.{and-by_complement, and-of_cleared, and-of_set, or-by_and}
use Rattle.arbitrary_laws.proofs.places.BitPlaces.{low-of_turned}
use Rattle.arbitrary_laws.proofs.places.BitTests.{low-of_right_cleared, low-of_right_other_cleared, low-of_right_other_set, masked-of_other_cleared, masked-of_other_set}
use Rattle.arbitrary_laws.proofs.places.OtherBits.{gone-cleared, other_bit-cleared, other_bit-set, other_bit-turned, same_bit-set, same_bit-turned}
use Rattle.arbitrary_laws.proofs.places.PrimitiveBit.{bit_cleared, bit_cleared-other, bit_set, bit_set-kept, bit_set-other, bit_tested, bit_turned, bit_turned-other, set_then_cleared}
use Rattle.arbitrary_laws.proofs.places.SingleBit.{and-one_bit, left-of_one, low-of_right, low-of_right_not, low-of_right_set}
use Rattle.std.proofs.lemmas.Bool.Decides.{Decides-int_eq}
use Rattle.std.proofs.lemmas.Grind.{and_numeral, one_shifted}

-- one bit by its place: `1 << k`, set, cleared, and tested by `x & (1 << k)` or by `(x >> k) & 1`
pub ruleset single_bits = (Decides-int_eq, left-of_one, and-one_bit, low-of_right, or-by_and, and-by_complement, and-of_cleared, and-of_set)

-- one bit that is set, cleared or turned over, and then this one or another tested by `(x >> k) & 1`, another also by `x & (1 << k)`
pub ruleset bit_tests = (Decides-int_eq, low-of_right_set, low-of_right_cleared, low-of_right_other_set, low-of_right_other_cleared, masked-of_other_set, masked-of_other_cleared, low-of_right_not, low-of_turned)

-- a bit by its place that is set, cleared or turned over, and the others, which stay
pub ruleset other_bits = (Decides-int_eq, same_bit-set, other_bit-set, gone-cleared, other_bit-cleared, same_bit-turned, other_bit-turned, own_bits-in_range)

-- one bit of a primitive by its place, as `1 << place` makes it: set, cleared, turned over and tested, and the others, which stay
pub ruleset primitive_bits = (one_shifted, and_numeral, pos-unsigned_abs, bit_tested, bit_set, bit_set-other, bit_turned, bit_turned-other, bit_cleared, bit_cleared-other, set_then_cleared)

-- several bits of a primitive by their places, set one after another, be the places apart or not
pub ruleset several_bits = (primitive_bits, bit_set-kept)
