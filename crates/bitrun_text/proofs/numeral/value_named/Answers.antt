use Rattle.std.proofs.Common.{sym, ap, ◌∙◌, rules, to_z-of_z}
use Rattle.std.specs.Bool.{then_some}
use Rattle.std.specs.Int.{w128}
use Rattle.arbitrary_int.specs.Range.{in_range}
use Rattle.bitrun_text.proofs.Values.{value-far, value-near}
use Rattle.bitrun_text.proofs.numeral.value_named.Goals as goal

pub returns-in_err-integer : goal.returns-in_err-integer
returns-in_err-integer g c =
    let some = (g.met.R.Numbered.width_law c.requires.width).0 in
    rw c.from_residual.ensures (sym (value-far g.R.Numbered.IS_SIGNED g.R.Numbered.BITS some c.requires.narrow c.args.word.now c.in_err-integer.ensures))

pub returns : goal.returns
returns g c =
    c.value_of.ensures ∙ ap (λ x. then_some (in_range g.R.Numbered.IS_SIGNED g.R.Numbered.BITS x) x) (to_z-of_z {w = w128} {z = c.in_ok-integer.field-0} (search rules))
    ∙ sym (value-near g.R.Numbered.IS_SIGNED g.R.Numbered.BITS c.args.word.now c.in_ok-integer.field-0 c.in_ok-integer.ensures)
