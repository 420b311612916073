use Rattle.std.proofs.Common.{◌≡◌, ◌+◌, ◌∙◌, arith}
use Rattle.bitrun_text.proofs.Numbers.{number_from}
use Rattle.bitrun_text.proofs.FastLines.{blank_passed}
use Rattle.bitrun_text.proofs.fast.number.Goals as goal

pub returns-then-digit-limit-clause-number : goal.returns-then-digit-limit-clause-number
returns-then-digit-limit-clause-number c =
    let text = c.args.text.now in
    let at = c.args.at in
    let two : at + 1 + 1 ≡ at + 2 = omega arith in
    rw two at (number_from text at (at + 1) (at + 1 + 1) c.in-Some.digit (blank_passed text at c.requires.within c.requires.blank) (omega arith) c.in-Some.ensures.reads)

pub returns-else-end-start-clause-number : goal.returns-else-end-start-clause-number
returns-else-end-start-clause-number c =
    let text = c.args.text.now in
    let at = c.args.at in
    let start = c.after_blanks-start in
    let read = c.digits-number.ensures in
    number_from text at start.result c.digits-number.result.1 c.digits-number.result.0 (start.ensures.same ∙ blank_passed text at c.requires.within c.requires.blank)
    (omega (arith, read.order, c.if-end-start.false)) read.reads
