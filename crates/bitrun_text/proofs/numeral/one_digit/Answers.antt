use Rattle.std.proofs.Common.{◌≡◌, ◌+◌, ◌-◌, ◌*◌, drop, get_or, sym, arith}
use Rattle.bitrun_text.proofs.Numbers.{reads-none, reads-later}
use Rattle.bitrun_text.proofs.numeral.one_digit.Goals as goal

pub returns-then-not-is_ascii_digit-clause-reads : goal.returns-then-not-is_ascii_digit-clause-reads
returns-then-not-is_ascii_digit-clause-reads c =
    let text = c.args.text.now in
    let at = c.args.at in
    let none : at - at ≡ 0 = omega arith in
    let next : c.from.result ≡ 10 * 0 + (get_or text at 0 - 48) = omega (arith, c.from.ensures) in
    reads-later text at at 0 _ (omega arith) (omega (arith, c.if-at-text.true)) (rw none (reads-none (drop at text))) (sym c.if-is_ascii_digit.ensures.value) next
