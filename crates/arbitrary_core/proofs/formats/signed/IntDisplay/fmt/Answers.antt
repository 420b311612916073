use mir.Syntax.{w128}
use Rattle.std.specs.Prelude.{◌≡◌}
use Rattle.std.proofs.Common.{le_trans, of_z, rules, sym, to_z, to_z-of_z, ◌∙◌}
use Rattle.arbitrary_core.proofs.formats.signed.IntDisplay.fmt.Goals as goal

pub returns-clause-writes : goal.returns-clause-writes
returns-clause-writes g c plain done =
    let width = le_trans c.as_i128.ensures.width.1 g.met.T.Storage.width_law.1 in
    let same : to_z w128 (of_z w128 c.as_i128.result) ≡ c.args.self.now =
    to_z-of_z {w = w128} {z = c.as_i128.result} (search rules) ∙ c.as_i128.ensures.as_wide g.met.T.SignedStorage.signed_law width in
    rw (sym same) (c.fmt.ensures.writes plain done)
