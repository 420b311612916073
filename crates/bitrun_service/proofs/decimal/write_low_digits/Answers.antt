use Rattle.std.proofs.Common.{◌≡◌, ◌+◌, ◌-◌, ◌%◌, arith, append-nil, append_assoc, add-one, sym}
use Rattle.std.proofs.Math.Nat.{pow-suc}
use Rattle.std.proofs.lemmas.List.{drop-set, drop_all, length-set}
use Rattle.bitrun_service.proofs.Decimals.{low-step}
use Rattle.bitrun_service.proofs.decimal.write_low_digits.Goals as goal

pub loop-at-init : goal.loop-at-init
loop-at-init c = record {
  above = omega arith;
  within = omega arith;
  room = omega (arith, c.told-buffer);
  below = c.requires;
  digits = λ high some small. sym (rw (drop_all 40 c.args.buffer.now (omega (arith, c.told-buffer))) (append-nil _));
}

pub loop-at-preserved : goal.loop-at-preserved
loop-at-preserved c =
    let l = c.loop-at in
    let k = l.at - 1 - 22 in
    let there : l.at - 22 ≡ k + 1 = omega (arith, l.invariant.above, c.loop-at-test.true) in
    let next : l.at - 1 + 1 ≡ l.at = omega (arith, l.invariant.above) in
    record {
      above = omega (arith, l.invariant.above, c.loop-at-test.true);
      within = omega (arith, l.invariant.within);
      room = omega (arith, length-set l.buffer (l.at - 1) (48 + l.left % 10), l.invariant.room);
      below = (let h = rw (there, add-one, pow-suc 10 k) at l.invariant.below in omega (arith, h));
      digits = λ high some small. (
          let step = low-step high k l.left some small (omega (arith, l.invariant.within)) (omega (arith, l.auto.left-fits.fits)) in
          rw (drop-set l.buffer (l.at - 1) _ (omega (arith, l.invariant.room, l.invariant.above, l.invariant.within)), next) (rw (there, step, append_assoc) at (l.invariant.digits high some small)));
    }
