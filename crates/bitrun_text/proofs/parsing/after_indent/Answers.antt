use Rattle.std.proofs.Common.{◌<◌, length, drop, arith, length-drop}
use Rattle.bitrun_text.proofs.FastLines.{same_lines}
use Rattle.bitrun_text.proofs.parsing.after_indent.Goals as goal

pub returns-else-next-text-clause-same : goal.returns-else-next-text-clause-same
returns-else-next-text-clause-same c =
    let text = c.args.text.now in
    let at = c.args.at in
    let next = c.after_blanks-next.result in
    let e = c.after_blanks-next.ensures in
    let within : next < length text = omega (arith, e.room, c.if-next-text.false) in
    same_lines (drop next text) (drop at text) (omega (arith, length-drop next text, within)) (omega (arith, length-drop at text, e.order, within)) e.same
