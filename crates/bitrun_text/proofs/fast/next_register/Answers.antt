use Rattle.std.proofs.Common.{drop, sym, arith}
use Rattle.bitrun_text.proofs.FastLines.{blank_ends}
use Rattle.bitrun_text.proofs.Numbers.{number_taken, number_later}
use Rattle.bitrun_text.proofs.fast.next_register.Goals as goal

pub returns-then-is_usual_blank-clause-number : goal.returns-then-is_usual_blank-clause-number
returns-then-is_usual_blank-clause-number c =
    let text = c.args.text.now in
    let n = c.in_ok-number in
    number_taken (drop c.args.at text) (drop n.end text) n.number c.args.count n.ensures.number (blank_ends text n.end c.if-end-text.true (sym c.if-is_usual_blank.ensures)) (omega (arith, n.ensures.below, c.min.ensures))

pub returns-then-is_usual_blank-clause-later : goal.returns-then-is_usual_blank-clause-later
returns-then-is_usual_blank-clause-later c =
    let text = c.args.text.now in
    let n = c.in_ok-number in
    number_later (drop c.args.at text) (drop n.end text) n.number c.args.count n.ensures.number (blank_ends text n.end c.if-end-text.true (sym c.if-is_usual_blank.ensures))
