-- For `write_signed` in src/decimal.rt: there is room for the minus sign. Decimals.antt has the lengths.
use Rattle.std.proofs.Common.{◌≡◌, ◌+◌, ◌-◌, ◌∙◌, ap, arith, to_z-of_z, unsigned_abs}
use Rattle.std.proofs.lemmas.List.{drop-set}
use Rattle.bitrun_service.proofs.Decimals.{length-decimal, minus_first}
use Rattle.bitrun_service.proofs.decimal.write_signed.Goals as goal

pub overflow_sub-buffer : goal.overflow_sub-buffer
overflow_sub-buffer c =
    let size = c.unsigned_abs.ensures.value ∙ ap unsigned_abs (to_z-of_z c.ranges.number) in
    omega (arith, length-decimal c.unsigned_abs.result (rw size c.requires))

pub overflow_sub-result : goal.overflow_sub-result
overflow_sub-result c =
    let size = c.unsigned_abs.ensures.value ∙ ap unsigned_abs (to_z-of_z c.ranges.number) in
    omega (arith, length-decimal c.unsigned_abs.result (rw size c.requires))

pub returns-clause-written : goal.returns-clause-written
returns-clause-written c =
    let w = c.write_decimal-start in
    let back = to_z-of_z c.ranges.number in
    let size = c.unsigned_abs.ensures.value ∙ ap unsigned_abs back in
    let long = length-decimal c.unsigned_abs.result (rw size c.requires) in
    let e : w.result - 1 + 1 ≡ w.result = omega arith in
    rw (drop-set w.new.buffer (w.result - 1) 45 (omega arith), e, w.ensures.written, size)
    (minus_first c.args.number (rw back at c.if-number-ge0.false))
