use Rattle.std.proofs.Common.{◌≡◌, ◌+◌, ◌-◌, ◌%◌, arith, append_assoc, refl}
use Rattle.std.proofs.lemmas.List.{drop-set, length-set}
use Rattle.bitrun_service.proofs.Decimals.{last_digit, first_digit}
use Rattle.bitrun_service.proofs.decimal.write_digits.Goals as goal

pub loop-left-init : goal.loop-left-init
loop-left-init c = record {
  fits = c.requires.0;
  within = omega arith;
  room = omega (arith, c.told-buffer);
  start = omega arith;
  digits = refl;
}

pub overflow_sub-at : goal.overflow_sub-at
overflow_sub-at c = omega (arith, (last_digit c.loop-left.left c.loop-left-test.true c.loop-left.auto.left-fits.fits).1, c.loop-left.invariant.fits)

pub overflow_sub-at-2 : goal.overflow_sub-at-2
overflow_sub-at-2 c = omega (arith, (first_digit c.loop-left.left (omega (arith, c.loop-left-test.false))).1, c.loop-left.invariant.fits)

pub loop-left-preserved : goal.loop-left-preserved
loop-left-preserved c =
    let l = c.loop-left in
    let digit = last_digit l.left c.loop-left-test.true l.auto.left-fits.fits in
    let next : l.at - 1 + 1 ≡ l.at = omega (arith, digit.1, l.invariant.fits) in
    record {
      fits = omega (arith, digit.1, l.invariant.fits);
      within = omega (arith, l.invariant.within);
      room = omega (arith, length-set l.buffer (l.at - 1) (48 + l.left % 10), l.invariant.room);
      start = omega (arith, digit.1, l.invariant.fits, l.invariant.start);
      digits = rw (drop-set l.buffer (l.at - 1) _ (omega (arith, digit.1, l.invariant.fits, l.invariant.room, l.invariant.within, c.requires.1)), next) (rw (digit.0, append_assoc) at l.invariant.digits);
    }

pub returns-clause-start : goal.returns-clause-start
returns-clause-start c =
    let l = c.loop-left in
    let digit = first_digit l.left (omega (arith, c.loop-left-test.false)) in
    omega (arith, digit.1, l.invariant.fits, l.invariant.start)

pub returns-clause-written : goal.returns-clause-written
returns-clause-written c =
    let l = c.loop-left in
    let digit = first_digit l.left (omega (arith, c.loop-left-test.false)) in
    let next : l.at - 1 + 1 ≡ l.at = omega (arith, digit.1, l.invariant.fits) in
    rw (drop-set l.buffer (l.at - 1) _ (omega (arith, digit.1, l.invariant.fits, l.invariant.room, l.invariant.within, c.requires.1)), next) (rw digit.0 at l.invariant.digits)
