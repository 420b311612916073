use Rattle.std.specs.Prelude.{◌<◌, ◌^◌}
use Rattle.std.proofs.Common.{rules}
use Rattle.bit_fields.proofs.Getting.{read-field, read-plain, read-congruent}
use Rattle.bit_fields.proofs.Record.get.Goals as goal

pub returns-clause-value : goal.returns-clause-value
returns-clause-value g c =
    let small : c.args.self.now.bits < 2 ^ 128 = search rules in
    read-field g.F.Numbered.IS_SIGNED g.F.Numbered.BITS c.args.start c.args.self.now.bits (g.F.Numbered.number c.from_u128_bits.result)
    (g.met.F.Numbered.width_law c.requires.width) c.requires.within small c.from_u128_bits.ensures.value

pub returns-clause-plain : goal.returns-clause-plain
returns-clause-plain g c =
    let small : c.args.self.now.bits < 2 ^ 128 = search rules in
    read-plain g.F.Numbered.IS_SIGNED g.F.Numbered.BITS c.args.start c.args.self.now.bits (g.F.Numbered.number c.from_u128_bits.result)
    (g.met.F.Numbered.width_law c.requires.width) c.requires.within small c.from_u128_bits.ensures.value

pub returns-clause-congruent : goal.returns-clause-congruent
returns-clause-congruent g c =
    let small : c.args.self.now.bits < 2 ^ 128 = search rules in
    read-congruent g.F.Numbered.IS_SIGNED g.F.Numbered.BITS c.args.start c.args.self.now.bits (g.F.Numbered.number c.from_u128_bits.result)
    (g.met.F.Numbered.width_law c.requires.width) c.requires.within small c.from_u128_bits.ensures.value
