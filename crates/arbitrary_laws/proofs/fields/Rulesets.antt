-- The small sets of this folder, each for one kind of goal. Sets.antt has the public set of the topic.
use Rattle.arbitrary_laws.proofs.fields.EmptyWord.{with_field-of_nothing}
use Rattle.arbitrary_laws.proofs.fields.JoinedWords.{words_read_back}
use Rattle.arbitrary_laws.proofs.fields.MovedIn.{or_moved_above, or_moved_in}
use Rattle.arbitrary_laws.proofs.fields.PrimitiveFlags.{and_beside, or_flags}
use Rattle.arbitrary_laws.proofs.fields.ReplacedField.{and_around, or_into_hole, written-inside, written-outside}
use Rattle.std.proofs.lemmas.Bool.Decides.{Decides-int_eq}

-- a field that is written where a mask has cleared one: what is under the mask afterwards, and outside it
pub ruleset written_fields = (Decides-int_eq, written-inside, written-outside)

-- words of a primitive in any of these ways: fields put together, written in place, moved and read back, and flags under a written mask
pub ruleset registers = (words_read_back, and_beside, and_around, or_into_hole, or_flags, or_moved_in, or_moved_above)

-- a field that is put into an empty word
pub ruleset empty_word = (with_field-of_nothing)
