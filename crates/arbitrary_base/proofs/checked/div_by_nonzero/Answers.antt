use Rattle.std.proofs.Common.{◌∙◌, sym}
use Rattle.arbitrary_base.proofs.integers.Quotient.{div-refuses, div-checks}
use Rattle.arbitrary_base.proofs.checked.div_by_nonzero.Goals as goal

pub returns-then-is_turned : goal.returns-then-is_turned
returns-then-is_turned g c =
    div-refuses g.T.Storage.SIGNED c.args.bits (g.T.Storage.number c.args.x) (g.T.Storage.number c.args.y) (g.T.Storage.number c.div-quotient.result) c.requires.width c.div-quotient.ensures.value (sym c.is_turned.ensures ∙ c.if-is_turned.true)

pub returns-else-is_turned : goal.returns-else-is_turned
returns-else-is_turned g c =
    div-checks g.T.Storage.SIGNED c.args.bits (g.T.Storage.number c.args.x) (g.T.Storage.number c.args.y) (g.T.Storage.number c.div-quotient.result) c.requires.width c.requires.x_in_range c.requires.y_in_range c.div-quotient.ensures.value (sym c.is_turned.ensures ∙ c.if-is_turned.false)
