use Rattle.std.proofs.Common.{◌∙◌}
use Rattle.arbitrary_int.proofs.RangeSteps.{below-of_cmp, first-of_more, fewer-first}
use Rattle.arbitrary_int.proofs.ranges.ValueRangeIterator.next.Goals as goal

pub after-self-requires : goal.after-self-requires
after-self-requires g c = below-of_cmp _ _ c.order.result c.order.ensures c.in-Less.is

steps : goal.returns-in-Less-clause-steps
steps g c = first-of_more c.args.self.now.done _ _ _ c.order.result c.order.ensures c.in-Less.is c.if-self.false c.after-self.ensures

pub returns-in-Less-clause-steps : goal.returns-in-Less-clause-steps
returns-in-Less-clause-steps g c = steps g c

pub returns-in-Less-clause-goes : goal.returns-in-Less-clause-goes
returns-in-Less-clause-goes g c = record { on = λ _. (tt, tt, fewer-first _ _ _ (steps g c)); keeps = tt; rests = λ _. tt }
