use Rattle.std.proofs.Common.{refl, arith}
use Rattle.bitrun_text.proofs.FastLines.{line_ends}
use Rattle.bitrun_text.proofs.fast.line_end.Goals as goal

pub returns-then-text-at-eq10-clause-line : goal.returns-then-text-at-eq10-clause-line
returns-then-text-at-eq10-clause-line c =
    line_ends c.args.text.now c.args.at c.args.at (omega arith) c.if-at-text.true c.if-text-at-eq10.true refl (λ later. absurd (omega (arith, later)))

pub returns-then-text-end-eq10-clause-line : goal.returns-then-text-end-eq10-clause-line
returns-then-text-end-eq10-clause-line c =
    let blanks = c.after_blanks-end.ensures in
    line_ends c.args.text.now c.args.at c.after_blanks-end.result blanks.order c.if-end-text.true c.if-text-end-eq10.true blanks.same blanks.ends
