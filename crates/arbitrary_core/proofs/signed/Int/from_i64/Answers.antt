-- For `from_i64` of `Int` in src/signed.rt: a cast that wraps does not change a number in range. The four other
-- casts have the same proof.
use Rattle.std.proofs.Common.{rules, ◌∙◌}
use Rattle.arbitrary_base.proofs.modular.ExactOrCongruent.{wrapped-exact}
use Rattle.arbitrary_core.proofs.signed.Int.from_i64.Goals as goal

pub returns : goal.returns
returns g c =
    c.new.ensures ∙ wrapped-exact g.T.Storage.SIGNED g.row.BITS c.args.value _ (c.requires.width.0) c.requires.value_in_range (search rules)
