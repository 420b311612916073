-- What the calls return for literals, as in the examples of a documentation, for callers.
use Rattle.arbitrary_laws.proofs.counts.Rulesets.{known_counts}
use Rattle.arbitrary_laws.proofs.written.KnownBytes.{known_bytes}
use Rattle.arbitrary_laws.proofs.written.Rulesets.{known_numbers}

-- operations, counts and bytes of numbers that are written out
pub ruleset known_calls = (known_numbers, known_counts, known_bytes)
