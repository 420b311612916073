use Rattle.std.proofs.Common.{drop, arith}
use Rattle.bitrun_text.proofs.Numbers.{last_taken, last_later}
use Rattle.bitrun_text.proofs.fast.last_register.Goals as goal

pub returns-clause-number : goal.returns-clause-number
returns-clause-number c =
    let text = c.args.text.now in
    let n = c.in_ok-number in
    last_taken (drop c.args.at text) (drop n.at text) (drop c.in_ok-end.end text) n.number c.args.count n.ensures.number c.in_ok-end.ensures.line (omega (arith, n.ensures.below, c.min.ensures))

pub returns-clause-later : goal.returns-clause-later
returns-clause-later c =
    let text = c.args.text.now in
    let n = c.in_ok-number in
    last_later (drop c.args.at text) (drop n.at text) (drop c.in_ok-end.end text) n.number c.args.count n.ensures.number c.in_ok-end.ensures.line
