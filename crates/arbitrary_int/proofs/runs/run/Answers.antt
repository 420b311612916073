use Rattle.std.proofs.Common.{ap, map}
use Rattle.arbitrary_int.proofs.WiderRuns.{wider-stop, wider-end}
use Rattle.arbitrary_int.proofs.runs.run.Goals as goal

pub returns-in-Err-clause-wider : goal.returns-in-Err-clause-wider
returns-in-Err-clause-wider g c exact t B within =
    let n = g.R.Numbered.number in
    let stopped = rw c.in-Err.is at c.apply.ensures in
    wider-stop g.R.Numbered.IS_SIGNED t g.R.Numbered.BITS B c.args.steps.now c.loop-at.at _ (map n c.args.registers.now) (map n c.loop-at.registers) _ c.in-Err.why
    c.loop-at-test.true c.loop-at.invariant.rest stopped.0 (ap (map n) stopped.1) within exact

pub returns-clause-wider : goal.returns-clause-wider
returns-clause-wider g c exact t B within =
    let n = g.R.Numbered.number in
    wider-end g.R.Numbered.IS_SIGNED t g.R.Numbered.BITS B c.args.steps.now c.loop-at.at (map n c.args.registers.now) _ c.loop-at-test.false c.loop-at.invariant.rest within exact
