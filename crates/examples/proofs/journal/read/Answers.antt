use Rattle.examples.proofs.Records.{on_err, first_refused, second_refused, third_refused, fourth_refused}
use Rattle.examples.proofs.journal.read.Goals as goal

pub returns-in_err-time-clause-why : goal.returns-in_err-time-clause-why
returns-in_err-time-clause-why g c = on_err c.from_residual.result (first_refused _ _ _ _ c.in_err-time.ensures.why)

pub returns-in_err-level-clause-why : goal.returns-in_err-level-clause-why
returns-in_err-level-clause-why g c = on_err c.from_residual-in_err-level.result (second_refused _ _ _ _ _ _ c.in_ok-time.ensures.taken c.in_err-level.ensures.why)

pub returns-in_err-source-clause-why : goal.returns-in_err-source-clause-why
returns-in_err-source-clause-why g c =
    on_err c.from_residual-in_err-source.result (third_refused _ _ _ _ _ _ _ _ c.in_ok-time.ensures.taken c.in_ok-level.ensures.taken c.in_err-source.ensures.why)

pub returns-in_err-reading-clause-why : goal.returns-in_err-reading-clause-why
returns-in_err-reading-clause-why g c =
    on_err c.from_residual-in_err-reading.result
    (fourth_refused _ _ _ _ _ _ _ _ _ _ c.in_ok-time.ensures.taken c.in_ok-level.ensures.taken c.in_ok-source.ensures.taken c.in_err-reading.ensures.why)
