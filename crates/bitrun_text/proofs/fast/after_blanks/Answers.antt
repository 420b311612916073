use Rattle.std.proofs.Common.{refl, sym, ◌∙◌, arith}
use Rattle.bitrun_text.proofs.FastLines.{blank_passed, blanks_end}
use Rattle.bitrun_text.proofs.fast.after_blanks.Goals as goal

pub loop-at-init : goal.loop-at-init
loop-at-init c = record { same = refl; ends = λ later. absurd (omega (arith, later)); order = omega arith; within = c.requires }

pub loop-at-preserved : goal.loop-at-preserved
loop-at-preserved c =
    let text = c.args.text.now in
    let l = c.loop-at in
    let kept = l.invariant in
    let blank = sym c.if-is_blank.ensures in
    let ends = blanks_end text c.args.start l.at kept.order c.loop-at-test.true blank kept.ends in
    record {
      same = blank_passed text l.at c.loop-at-test.true blank ∙ kept.same;
      ends = λ later. ends;
      order = omega (arith, kept.order);
      within = omega (arith, c.loop-at-test.true);
    }
