-- For `value_of` in src/numeral.rt: masking does not change the number exactly if it is in range, a goal for each
-- outcome of the test. The lemmas of proofs/Values.antt need the bound of 120 bits.
use Rattle.std.proofs.Common.{◌≡◌, sym, ap, ◌∙◌, rules, to_z, of_z, to_z-of_z}
use Rattle.std.specs.Int.{w128}
use Rattle.arbitrary_int.specs.Residue.{wrap}
use Rattle.bitrun_text.proofs.Values.{value_kept, value_lost}
use Rattle.bitrun_text.proofs.numeral.value_of.Goals as goal

pub returns-then-as_i128-number : goal.returns-then-as_i128-number
returns-then-as_i128-number g c =
    let some = (g.met.R.Numbered.width_law c.requires.width).0 in
    let number : to_z w128 (of_z w128 c.args.number) ≡ c.args.number = to_z-of_z {w = w128} {z = c.args.number} (search rules) in
    let masked = c.masked_new-value.ensures.value ∙ ap (wrap g.R.Numbered.IS_SIGNED g.R.Numbered.BITS) number in
    let same : c.as_i128.result ≡ c.args.number = sym (to_z-of_z {w = w128} {z = c.as_i128.result} (search rules)) ∙ ap (to_z w128) c.if-as_i128-number.true ∙ number in
    sym (value_kept g.R.Numbered.IS_SIGNED g.R.Numbered.BITS some c.requires.narrow c.args.number _ masked (sym c.as_i128.ensures.value ∙ same))

pub returns-else-as_i128-number : goal.returns-else-as_i128-number
returns-else-as_i128-number g c =
    let some = (g.met.R.Numbered.width_law c.requires.width).0 in
    let number : to_z w128 (of_z w128 c.args.number) ≡ c.args.number = to_z-of_z {w = w128} {z = c.args.number} (search rules) in
    let masked = c.masked_new-value.ensures.value ∙ ap (wrap g.R.Numbered.IS_SIGNED g.R.Numbered.BITS) number in
    sym (value_lost g.R.Numbered.IS_SIGNED g.R.Numbered.BITS some c.requires.narrow c.args.number _ masked (λ e. c.if-as_i128-number.false (ap (of_z w128) (c.as_i128.ensures.value ∙ e))))
