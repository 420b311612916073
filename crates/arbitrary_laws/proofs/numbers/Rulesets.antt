-- The small sets of this folder, each for one kind of goal. Sets.antt has the public set of the topic.
use Rattle.arbitrary_base.proofs.integers.Powers.{power-one, power-zero}
use Rattle.arbitrary_base.proofs.modular.Residue.{wrap-of_in_range}
use Rattle.arbitrary_base.proofs.operations.PowerAndQuotient.{quotient-self}
use Rattle.arbitrary_base.proofs.storages.Clamp.{clamp-fits}
use Rattle.arbitrary_laws.proofs.numbers.QuotientAndCube.{power-thrice, power-twice, quotient-times}

-- a quotient times its divisor, and small powers
pub ruleset quotients = (power-zero, power-one, power-twice, power-thrice, quotient-self, quotient-times, wrap-of_in_range, clamp-fits)
