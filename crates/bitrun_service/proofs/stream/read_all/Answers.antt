use Rattle.std.proofs.Common.{arith, rules}
use Rattle.bitrun_service.proofs.Streams.{read_whole, held_more}
use Rattle.bitrun_service.proofs.stream.read_all.Goals as goal

pub returns-then-count-eq0-clause-all : goal.returns-then-count-eq0-clause-all
returns-then-count-eq0-clause-all g c =
    read_whole _ _ _ c.loop.input.items _ c.in-Ok.count c.if-count-eq0.true c.loop.invariant.0 c.in-Ok.ensures.bytes.0 (search rules)

pub returns-then-count-len-clause-fault : goal.returns-then-count-len-clause-fault
returns-then-count-len-clause-fault g c =
    held_more _ _ _ c.loop.input.items _ c.in-Ok.count 65536 c.in-Ok.ensures.bound.0 (omega arith) c.loop.invariant.0 c.in-Ok.ensures.bytes.0
