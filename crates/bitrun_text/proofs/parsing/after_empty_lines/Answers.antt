use Rattle.std.proofs.Common.{◌≡◌, ◌+◌, ◌-◌, ◌<◌, length, drop, arith, length-drop}
use Rattle.std.proofs.lemmas.List.{drop_more}
use Rattle.bitrun_text.proofs.FastLines.{lf_ends}
use Rattle.bitrun_text.proofs.StepLines.{blank_passed, one_line}
use Rattle.bitrun_text.proofs.parsing.after_empty_lines.Goals as goal

pub loop-next-init : goal.loop-next-init
loop-next-init c =
    let none : c.args.at - c.args.at ≡ 0 = omega arith in
    record { read = λ count all steps number h. (let same : number + (c.args.at - c.args.at) ≡ number = omega arith in rw same h); counted = omega arith; order = omega arith; within = c.requires }

pub loop-next-preserved : goal.loop-next-preserved
loop-next-preserved c =
    let text = c.args.text.now in
    let at = c.args.at in
    let next = c.loop-next.next in
    let kept = c.loop-next.invariant in
    let some : 0 < length (drop next text) = omega (arith, length-drop next text, c.loop-next-test.true) in
    let ends = lf_ends (drop next text) (drop (next + 1) text) (rw c.if-text-next-eq10.true at (drop_more text next 0 c.loop-next-test.true)) in
    record {
      read = λ count all steps number h. (
          let same : number + (next - at) + 1 ≡ number + (next + 1 - at) = omega (arith, kept.order) in
          rw same at (blank_passed count (drop next text) (drop (next + 1) text) some all steps (number + (next - at)) (kept.read count all steps number h) ends));
      counted = omega (arith, kept.counted, kept.order, one_line (drop next text) (drop (next + 1) text) some ends.later);
      order = omega (arith, kept.order);
      within = omega (arith, c.loop-next-test.true);
    }

pub returns-else-text-next-eq10-clause-read : goal.returns-else-text-next-eq10-clause-read
returns-else-text-next-eq10-clause-read c = c.loop-next.invariant.read

pub returns-after-loop-next-clause-read : goal.returns-after-loop-next-clause-read
returns-after-loop-next-clause-read c = c.loop-next.invariant.read
