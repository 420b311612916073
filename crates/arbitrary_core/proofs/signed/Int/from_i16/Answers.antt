use Rattle.std.proofs.Common.{rules, ◌∙◌}
use Rattle.arbitrary_base.proofs.modular.ExactOrCongruent.{wrapped-exact}
use Rattle.arbitrary_core.proofs.signed.Int.from_i16.Goals as goal

pub returns : goal.returns
returns g c =
    c.new.ensures ∙ wrapped-exact g.T.Storage.SIGNED g.row.BITS c.args.value _ (c.requires.width.0) c.requires.value_in_range (search rules)
