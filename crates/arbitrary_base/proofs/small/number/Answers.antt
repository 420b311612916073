use Rattle.std.proofs.Common.{◌∙◌, to_z-of_z}
use Rattle.std.specs.Int.{w64}
use Rattle.arbitrary_base.proofs.storages.Primitive.{signed-fits}
use Rattle.arbitrary_base.proofs.storages.SixteenBits.{small-number}
use Rattle.arbitrary_base.proofs.small.number.Goals as goal

pub returns-clause-value : goal.returns-clause-value
returns-clause-value g c =
    to_z-of_z (signed-fits w64 _ c.cast.ensures.result_in_range)
    ∙ small-number g.T.Storage.SIGNED g.T.Storage.WIDTH _ _ (g.met.T.Storage.width_law.0) c.requires.small c.pattern-pattern.ensures.self_in_range c.cast.ensures.value
