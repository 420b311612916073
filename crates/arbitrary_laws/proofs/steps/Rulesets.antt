-- The small sets of this folder, each for one kind of goal. Sets.antt has the public set of the topic.
use Rattle.arbitrary_base.proofs.LawProof.{in_range-decides}
use Rattle.arbitrary_base.proofs.modular.Residue.{wrap-congruent, wrap-of_in_range}
use Rattle.arbitrary_base.proofs.storages.Clamp.{clamp-above, clamp-below, clamp-fits}
use Rattle.arbitrary_int.proofs.RangeNumbers.{numbers-count}
use Rattle.arbitrary_laws.proofs.steps.RangeNumbers.{last_of-joined, numbers-end, numbers-head}
use Rattle.arbitrary_laws.proofs.steps.StepWords.{difference-step, product-step, sum-step}
use Rattle.arbitrary_laws.proofs.written.Rulesets.{known_numbers}
use Rattle.std.proofs.lemmas.Bool.Decides.{Decides-int_eq}
use Rattle.std.proofs.lemmas.List.{map-id}
use Rattle.std.specs.Cmp.Rules.{signed_items}

-- a test by `==` of two lists or arrays of these integers
pub ruleset signed_lists = (signed_items)

-- the first of a range and the last, and how many there are
pub ruleset ranges = (Decides-int_eq, numbers-head, last_of-joined, numbers-end, numbers-count)

-- what a list of steps leaves, where each step is written out
pub ruleset steps = (map-id, wrap-of_in_range, wrap-congruent, clamp-fits, clamp-below, clamp-above, in_range-decides, sum-step, difference-step, product-step, known_numbers)
