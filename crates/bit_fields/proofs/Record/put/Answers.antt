use Rattle.std.specs.Prelude.{◌<◌, ◌^◌}
use Rattle.std.proofs.Common.{rules}
use Rattle.bit_fields.proofs.Putting.{put-is, read-back, read-below, read-above, read-same, number-above, number-below, number-congruent, number-plain}
use Rattle.bit_fields.proofs.Record.put.Goals as goal

pub returns-clause-bits : goal.returns-clause-bits
returns-clause-bits g c =
    put-is c.args.self.now.bits c.args.start g.F.Numbered.BITS c.BITS.result c.bits_alone.result c.replaced-self.result (g.F.Numbered.number c.args.value)
    c.BITS.ensures c.replaced-self.ensures c.bits_alone.ensures.value

pub returns-clause-read_back : goal.returns-clause-read_back
returns-clause-read_back g c =
    read-back c.args.self.now.bits c.args.start g.F.Numbered.BITS c.replaced-self.result (g.F.Numbered.number c.args.value) (returns-clause-bits g c) c.requires
    g.F.Numbered.IS_SIGNED (g.met.F.Numbered.width_law c.bits_alone.ensures.width).0 c.bits_alone.ensures.value_in_range

pub returns-clause-below : goal.returns-clause-below
returns-clause-below g c =
    read-below c.args.self.now.bits c.args.start g.F.Numbered.BITS c.replaced-self.result (g.F.Numbered.number c.args.value) (returns-clause-bits g c) c.requires

pub returns-clause-above : goal.returns-clause-above
returns-clause-above g c =
    read-above c.args.self.now.bits c.args.start g.F.Numbered.BITS c.replaced-self.result (g.F.Numbered.number c.args.value) (returns-clause-bits g c) c.requires

pub returns-clause-same : goal.returns-clause-same
returns-clause-same g c =
    let small : c.args.self.now.bits < 2 ^ 128 = search rules in
    read-same c.args.self.now.bits c.args.start g.F.Numbered.BITS c.replaced-self.result (g.F.Numbered.number c.args.value) (returns-clause-bits g c) c.requires
    g.F.Numbered.IS_SIGNED small

pub returns-clause-low : goal.returns-clause-low
returns-clause-low g c =
    let small : c.args.self.now.bits < 2 ^ 128 = search rules in
    number-below c.args.self.now.bits c.args.start g.F.Numbered.BITS c.replaced-self.result (g.F.Numbered.number c.args.value) (returns-clause-bits g c) c.requires small

pub returns-clause-high : goal.returns-clause-high
returns-clause-high g c =
    let small : c.args.self.now.bits < 2 ^ 128 = search rules in
    number-above c.args.self.now.bits c.args.start g.F.Numbered.BITS c.replaced-self.result (g.F.Numbered.number c.args.value) (returns-clause-bits g c) c.requires small

pub returns-clause-congruent : goal.returns-clause-congruent
returns-clause-congruent g c =
    let small : c.args.self.now.bits < 2 ^ 128 = search rules in
    number-congruent c.args.self.now.bits c.args.start g.F.Numbered.BITS c.replaced-self.result (g.F.Numbered.number c.args.value) (returns-clause-bits g c) c.requires small

pub returns-clause-plain : goal.returns-clause-plain
returns-clause-plain g c =
    let small : c.args.self.now.bits < 2 ^ 128 = search rules in
    number-plain c.args.self.now.bits c.args.start g.F.Numbered.BITS c.replaced-self.result (g.F.Numbered.number c.args.value) (returns-clause-bits g c) c.requires g.F.Numbered.IS_SIGNED small
    (g.met.F.Numbered.width_law c.bits_alone.ensures.width).0 c.bits_alone.ensures.value_in_range
