use Rattle.std.proofs.Common.{◌∙◌}
use Rattle.arbitrary_int.proofs.RangeSteps.{below-of_cmp, last-of_more, fewer-last}
use Rattle.arbitrary_int.proofs.ranges.ValueRangeDoubleEndedIterator.next_back.Goals as goal

pub before-self-requires : goal.before-self-requires
before-self-requires g c = below-of_cmp _ _ c.order.result c.order.ensures c.in-Less.is

steps : goal.returns-in-Less-clause-steps
steps g c = last-of_more c.args.self.now.done _ _ _ c.order.result c.order.ensures c.in-Less.is c.if-self.false c.before-self.ensures

pub returns-in-Less-clause-steps : goal.returns-in-Less-clause-steps
returns-in-Less-clause-steps g c = steps g c

pub returns-in-Less-clause-goes : goal.returns-in-Less-clause-goes
returns-in-Less-clause-goes g c = record { on = λ _. (tt, tt, fewer-last _ _ _ (steps g c)); keeps = tt; rests = λ _. tt }
