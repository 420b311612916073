-- For `power_laws` in src/power.rt: each clause is a lemma of integers/Powers.antt.
use Rattle.arbitrary_base.proofs.integers.Powers.{power-add, power-mul}
use Rattle.arbitrary_base.proofs.power.power_laws.Goals as goal

pub returns-clause-sums : goal.returns-clause-sums
returns-clause-sums c = power-add

pub returns-clause-products : goal.returns-clause-products
returns-clause-products c = power-mul
