-- For `clamped` in src/small.rt: a number outside the range becomes the nearest end, and one between the ends stays.
-- The lemmas are in storages/SixteenBits.antt.
use Rattle.std.proofs.Common.{◌∙◌, to_z-of_z}
use Rattle.std.specs.Int.{w64}
use Rattle.arbitrary_base.proofs.storages.SixteenBits.{end-low, end-high, between-ends}
use Rattle.arbitrary_base.proofs.small.clamped.Goals as goal

pub returns-then-x-low : goal.returns-then-x-low
returns-then-x-low g c =
    let x = to_z-of_z {w = w64} {z = c.args.x} (record { sfits = c.ranges.x.sfits }) in
    let l = to_z-of_z {w = w64} {z = c.number-low.result} (record { sfits = c.number-low.type_inv }) in
    end-low g.T.Storage.SIGNED c.args.bits c.args.x c.number-low.result _ _ x l (c.number-low.ensures.value ∙ c.lowest.ensures.value) c.if-x-low.true

pub returns-then-high-x : goal.returns-then-high-x
returns-then-high-x g c =
    let x = to_z-of_z {w = w64} {z = c.args.x} (record { sfits = c.ranges.x.sfits }) in
    let l = to_z-of_z {w = w64} {z = c.number-low.result} (record { sfits = c.number-low.type_inv }) in
    let h = to_z-of_z {w = w64} {z = c.number-high.result} (record { sfits = c.number-high.type_inv }) in
    end-high g.T.Storage.SIGNED c.args.bits c.args.x c.number-low.result c.number-high.result _ _ _ c.requires.width x l h
    (c.number-low.ensures.value ∙ c.lowest.ensures.value) (c.number-high.ensures.value ∙ c.highest.ensures.value) c.if-x-low.false c.if-high-x.true

pub returns-else-high-x : goal.returns-else-high-x
returns-else-high-x g c =
    let x = to_z-of_z {w = w64} {z = c.args.x} (record { sfits = c.ranges.x.sfits }) in
    let l = to_z-of_z {w = w64} {z = c.number-low.result} (record { sfits = c.number-low.type_inv }) in
    let h = to_z-of_z {w = w64} {z = c.number-high.result} (record { sfits = c.number-high.type_inv }) in
    between-ends g.T.Storage.SIGNED c.args.bits c.args.x c.number-low.result c.number-high.result _ _ _ x l h
    (c.number-low.ensures.value ∙ c.lowest.ensures.value) (c.number-high.ensures.value ∙ c.highest.ensures.value) c.if-x-low.false c.if-high-x.false
