-- The small sets of this folder, each for one kind of goal. Sets.antt has the public set of the topic.
use Rattle.arbitrary_laws.proofs.written.KnownNumbers.{and-of_negative, and-of_positive, and-with_negative, left-of_negative, left-of_positive, not-of_negative, not-of_positive, or-of_negative, or-of_positive, or-with_negative, reversed-of_negative, reversed-of_positive, right-of_negative, right-of_positive, rotated_left-of_negative, rotated_left-of_positive, rotated_right-of_negative, rotated_right-of_positive, signed_wrap-of_negative, signed_wrap-of_positive, wrap-of_negative, wrap-of_positive, xor-of_negative, xor-of_positive, xor-with_negative}

-- what the operations give on numbers that are written out
pub ruleset known_numbers = (wrap-of_positive, wrap-of_negative, signed_wrap-of_positive, signed_wrap-of_negative, and-of_positive, or-of_positive, xor-of_positive, not-of_positive, left-of_positive, right-of_positive, rotated_left-of_positive, rotated_right-of_positive, reversed-of_positive, and-of_negative, or-of_negative, xor-of_negative, not-of_negative, left-of_negative, right-of_negative, rotated_left-of_negative, rotated_right-of_negative, reversed-of_negative, and-with_negative, or-with_negative, xor-with_negative)
