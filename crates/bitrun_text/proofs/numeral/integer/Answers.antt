use Rattle.std.proofs.Common.{pos, neg_ℤ, Some, sym, rules, to_z-of_z, ap, ◌∙◌}
use Rattle.std.specs.Int.{w128}
use Rattle.bitrun_text.proofs.Values.{near, far, size-pos, size-neg}
use Rattle.bitrun_text.proofs.numeral.integer.Goals as goal

pub returns-in_err-number_below-in-Some : goal.returns-in_err-number_below-in-Some
returns-in_err-number_below-in-Some c =
    rw c.from_residual.ensures (far c.args.word.now c.in-Some.digits.now (λ n. neg_ℤ (pos n)) size-neg c.in-Some.ensures (sym c.in_err-number_below-in-Some.ensures.value))

pub returns-in_err-number_below-in-None : goal.returns-in_err-number_below-in-None
returns-in_err-number_below-in-None c =
    rw c.from_residual-in_err-number_below-in-None.ensures (far c.args.word.now c.args.word.now pos size-pos c.in-None.ensures (sym c.in_err-number_below-in-None.ensures.value))

pub returns-in_ok-number_below-in-Some : goal.returns-in_ok-number_below-in-Some
returns-in_ok-number_below-in-Some c =
    near c.args.word.now c.in-Some.digits.now (λ n. neg_ℤ (pos n)) c.in_ok-number_below-in-Some.field-0 c.in-Some.ensures (sym c.in_ok-number_below-in-Some.ensures.value)
    ∙ ap Some (sym (to_z-of_z {w = w128} {z = c.below_zero.result} (search rules) ∙ c.below_zero.ensures))

pub returns-in_ok-number_below-in-None : goal.returns-in_ok-number_below-in-None
returns-in_ok-number_below-in-None c =
    near c.args.word.now c.args.word.now pos c.in_ok-number_below-in-None.field-0 c.in-None.ensures (sym c.in_ok-number_below-in-None.ensures.value)
    ∙ ap Some (sym (to_z-of_z {w = w128} {z = c.above_zero.result} (search rules) ∙ c.above_zero.ensures))
