use Rattle.std.proofs.lemmas.Result.{on_err_weaker}
use Rattle.examples.proofs.Records.{on_err, first_begun, second_begun, third_begun, fourth_begun}
use Rattle.examples.proofs.journal.write.Goals as goal

pub returns-in_err-serialize-clause-begun : goal.returns-in_err-serialize-clause-begun
returns-in_err-serialize-clause-begun g c =
    let line = c.args.line in
    on_err c.from_residual.result (first_begun line.time line.level line.source line.reading _ _ c.in_err-serialize.ensures.begun)

pub returns-in_err-serialize-2-clause-begun : goal.returns-in_err-serialize-2-clause-begun
returns-in_err-serialize-2-clause-begun g c =
    let line = c.args.line in
    on_err c.from_residual-in_err-serialize-2.result (second_begun line.time line.level line.source line.reading _ _ _ c.in_ok-serialize.ensures.all c.in_err-serialize-2.ensures.begun)

pub returns-in_err-serialize-3-clause-begun : goal.returns-in_err-serialize-3-clause-begun
returns-in_err-serialize-3-clause-begun g c =
    let line = c.args.line in
    on_err c.from_residual-in_err-serialize-3.result
    (third_begun line.time line.level line.source line.reading _ _ _ _ c.in_ok-serialize.ensures.all c.in_ok-serialize-2.ensures.all c.in_err-serialize-3.ensures.begun)

pub returns-clause-begun : goal.returns-clause-begun
returns-clause-begun g c =
    let line = c.args.line in
    on_err_weaker c.serialize-4.result
    (fourth_begun line.time line.level line.source line.reading _ _ _ _ _ c.in_ok-serialize.ensures.all c.in_ok-serialize-2.ensures.all c.in_ok-serialize-3.ensures.all)
    c.serialize-4.ensures.begun
