use Rattle.std.proofs.Common.{◌∙◌}
use Rattle.arbitrary_base.proofs.storages.CheckedSum.{wrap-zero}
use Rattle.arbitrary_core.proofs.bounds.unsigned.UIntDefault.default.Goals as goal

pub returns : goal.returns
returns g c = c.new.ensures ∙ c.from_low_bits.ensures.value ∙ wrap-zero _ _ (g.met.T.HasWidth.valid_law.0)
