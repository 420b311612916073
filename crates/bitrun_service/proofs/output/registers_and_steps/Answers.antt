use Rattle.std.proofs.Common.{◌≡◌, ◌∙◌, length}
use Rattle.std.proofs.lemmas.Result.{err_from_is_err_and}
use Rattle.bitrun_text.proofs.Forms.{fault_of_steps}
use Rattle.bitrun_service.proofs.output.registers_and_steps.Goals as goal

pub returns-in_err-steps-clause-fault : goal.returns-in_err-steps-clause-fault
returns-in_err-steps-clause-fault g c =
    let p = err_from_is_err_and c.from_residual-in_err-steps.result c.from_residual-in_err-steps.ensures.1 in
    let count : c.len.result ≡ length c.in-Some.registers.items = c.len.ensures ∙ c.in-Some.registers.ok.0 in
    rw (p.1, p.2) (fault_of_steps g.R.Numbered.number g.R.Numbered.IS_SIGNED g.R.Numbered.BITS c.args.lines.now.words c.args.lines.now.later c.in-Some.registers.items c.in_err-steps.field-0.0
    (rw c.in-Some.is at c.in_ok-registers.ensures.values) (rw (count, c.in_ok-registers.ensures.later) at c.in_err-steps.ensures.fault))
