use Rattle.std.proofs.Common.{[], ◌∷◌}
use Rattle.std.proofs.lemmas.Bool.Decides.{Decides-eqb}
use Rattle.std.proofs.lemmas.Slice.Eq.{strip_prefix_is}
use Rattle.bitrun_text.proofs.Values.{signed_is}
use Rattle.bitrun_text.proofs.numeral.without_minus.Goals as goal

pub returns : goal.returns
returns c = signed_is c.args.word.now _ (strip_prefix_is Decides-eqb c.args.word.now (45 ∷ []) _ c.strip_prefix.ensures.cases)
