use Rattle.std.specs.Int.{w64}
use Rattle.std.proofs.Common.{to_z-of_z, ◌∙◌}
use Rattle.arbitrary_base.proofs.storages.SixteenBits.{below_end, up_to_end}
use Rattle.arbitrary_base.proofs.small.is_number_of.Goals as goal

pub returns-then-number-x : goal.returns-then-number-x
returns-then-number-x g c =
    up_to_end g.T.Storage.SIGNED c.args.bits _ _ _ _ _ _ (to_z-of_z {w = w64} {z = c.args.x} c.ranges.x)
    (to_z-of_z {w = w64} {z = c.number.result} (record { sfits = c.number.type_inv }) ∙ c.number.ensures.value)
    (to_z-of_z {w = w64} {z = c.number-then-number-x.result} (record { sfits = c.number-then-number-x.type_inv }) ∙ c.number-then-number-x.ensures.value)
    c.lowest.ensures.value c.highest.ensures.value c.if-number-x.true

pub returns-else-number-x : goal.returns-else-number-x
returns-else-number-x g c =
    below_end g.T.Storage.SIGNED c.args.bits _ _ _ _ (to_z-of_z {w = w64} {z = c.args.x} c.ranges.x)
    (to_z-of_z {w = w64} {z = c.number.result} (record { sfits = c.number.type_inv }) ∙ c.number.ensures.value) c.lowest.ensures.value c.if-number-x.false
