use Rattle.std.proofs.Common.{◌<◌, length, drop, ap, arith, length-drop}
use Rattle.bitrun_text.proofs.StepLines.{step_passed, one_line}
use Rattle.bitrun_text.proofs.parsing.fast_steps.Goals as goal

pub loop-at-preserved-in-Some : goal.loop-at-preserved-in-Some
loop-at-preserved-in-Some g c =
    let text = c.args.text.now in
    let at = c.loop-at.at in
    let kept = c.loop-at.invariant in
    let end = c.in-Some.end in
    let line = c.in-Some.ensures in
    let some : 0 < length (drop at text) = omega (arith, length-drop at text, line.order, line.room) in
    rw c.push_reserved.ensures.items (record {
      read = λ all h. step_passed c.args.count (drop at text) (drop end text) some all c.loop-at.steps.items c.loop-at.number (kept.read all h) c.in-Some.step line.step line.within;
      counted = omega (arith, kept.counted, one_line (drop at text) (drop end text) some line.step.later);
      order = omega (arith, kept.order);
      within = line.room;
    })

pub loop-at-preserved : goal.loop-at-preserved
loop-at-preserved g c =
    let kept = c.loop-at.invariant in
    let start = c.after_indent-start.ensures in
    let passed = c.after_empty_lines-end.ensures in
    record {
      read = λ all h. passed.read c.args.count all c.loop-at.steps.items c.loop-at.number (rw (← start.same) at (kept.read all h));
      counted = omega (arith, kept.counted, passed.counted, passed.order, ap length start.same);
      order = omega (arith, kept.order);
      within = passed.room;
    }

pub returns-clause-read : goal.returns-clause-read
returns-clause-read g c = λ all h. rw c.split_at.ensures.back (c.loop-at.invariant.read all h)
