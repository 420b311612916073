use Rattle.std.proofs.Common.{◌≡◌, ℕ, ◌+◌, ◌-◌, ◌*◌, drop, get_or, sym, ap, ◌∙◌, arith, length-drop}
use Rattle.std.proofs.lemmas.List.{get_or-drop}
use Rattle.bitrun_text.proofs.Digits.{not_digits, other_byte, too_large}
use Rattle.bitrun_text.proofs.Numbers.{reads-none, reads-later}
use Rattle.bitrun_text.proofs.numeral.digits.Goals as goal

pub loop-at-init : goal.loop-at-init
loop-at-init c =
    let none : c.args.start - c.args.start ≡ 0 = omega arith in
    record {
      reads = rw none (reads-none (drop c.args.start c.args.text.now));
      small = omega arith;
      below = λ some. absurd (omega (arith, some));
      order = omega arith;
      within = c.requires.start;
    }

pub loop-at-preserved : goal.loop-at-preserved
loop-at-preserved c =
    let l = c.loop-at in
    let text = c.args.text.now in
    let next : 10 * l.number + c.from.result ≡ 10 * l.number + (get_or text l.at 0 - 48) = omega (arith, c.from.ensures) in
    record {
      reads = reads-later text c.args.start l.at l.number _ l.invariant.order c.loop-at-test.true l.invariant.reads (sym c.if-is_ascii_digit.ensures.value) next;
      small = omega (arith, c.if-next-limit.false, c.requires.limit);
      below = λ some. omega (arith, c.if-next-limit.false);
      order = omega (arith, l.invariant.order);
      within = omega (arith, c.loop-at-test.true);
    }

pub returns-else-is_ascii_digit-clause-stops : goal.returns-else-is_ascii_digit-clause-stops
returns-else-is_ascii_digit-clause-stops c =
    let text = c.args.text.now in
    let start = c.args.start in
    let at = c.loop-at.at in
    λ more.
    let order = c.loop-at.invariant.order in
    let there : start + (at - start) ≡ at = omega (arith, order) in
    let byte : get_or (drop start text) (at - start) 0 ≡ get_or text at 0 = get_or-drop start text (at - start) 0 ∙ ap (λ (k : ℕ). get_or text k 0) there in
    not_digits c.args.limit (drop start text) (other_byte (drop start text) (at - start) (omega (arith, length-drop start text, order, more)) (rw byte (sym c.if-is_ascii_digit.ensures.value)))

pub returns-then-next-limit-clause-stops : goal.returns-then-next-limit-clause-stops
returns-then-next-limit-clause-stops c =
    let l = c.loop-at in
    let text = c.args.text.now in
    let next : 10 * l.number + c.from.result ≡ 10 * l.number + (get_or text l.at 0 - 48) = omega (arith, c.from.ensures) in
    let reads = reads-later text c.args.start l.at l.number _ l.invariant.order c.loop-at-test.true l.invariant.reads (sym c.if-is_ascii_digit.ensures.value) next in
    λ more. too_large c.args.limit (drop c.args.start text) (l.at + 1 - c.args.start) (omega (arith, reads.value, c.if-next-limit.true))
