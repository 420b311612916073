use Rattle.std.specs.Prelude.{int_div}
use Rattle.std.proofs.Common.{◌∙◌}
use Rattle.arbitrary_base.specs.Residue.{wrap}
use Rattle.arbitrary_base.proofs.modular.ExactOrCongruent.{wrapped-exact}
use Rattle.arbitrary_base.proofs.operations.PowerAndQuotient.{quotient-of_equal}
use Rattle.arbitrary_core.proofs.Results.{of_numbers}
use Rattle.arbitrary_core.proofs.operators.unsigned.UIntDiv.div.Goals as goal

pub returns : goal.returns
returns g c =
    let fits = c.requires.1 c.value.ensures.self_in_range c.value-2.ensures.self_in_range in
    let e = wrapped-exact _ _ _ _ c.value.ensures.width.0 fits (of_numbers (λ x y. wrap g.T.Storage.SIGNED g.row.BITS (int_div x y)) c.value.ensures.number c.value-2.ensures.number c.div.ensures.value c.new.ensures) in
    record { value = e; itself = λ d. e ∙ quotient-of_equal _ _ c.requires.0 d }
