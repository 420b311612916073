use Rattle.std.proofs.Common.{ap, length, arith}
use Rattle.bitrun_text.proofs.Forms.{length-word_lines, no_first_line}
use Rattle.bitrun_service.proofs.output.output.Goals as goal

pub returns-in_default-clause-fault : goal.returns-in_default-clause-fault
returns-in_default-clause-fault g c = no_first_line c.args.input.now c.in_default.ensures

pub output_with-requires : goal.output_with-requires
output_with-requires g c =
    omega (arith, length-word_lines c.args.input.now, ap length c.in-Some.ensures, ap length c.in-Some-kind_named.ensures.later, ap length c.if-not-next_line.ensures, c.requires)
