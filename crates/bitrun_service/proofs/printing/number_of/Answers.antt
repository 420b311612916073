use Rattle.std.proofs.Common.{◌≡◌, ◌∙◌, rules, to_z, of_z, to_z-of_z}
use Rattle.std.specs.Int.{w128}
use Rattle.bitrun_text.proofs.Values.{from_pattern}
use Rattle.bitrun_service.proofs.printing.number_of.Goals as goal

pub returns-clause-number : goal.returns-clause-number
returns-clause-number g c =
    let some = (g.met.R.Numbered.width_law c.to_u128_bits.ensures.width).0 in
    to_z-of_z {w = w128} {z = c.from_u128_bits.result} (search rules)
    ∙ (from_pattern g.R.Numbered.IS_SIGNED g.R.Numbered.BITS some c.requires (g.R.Numbered.number c.args.register) _ _ c.to_u128_bits.ensures.self_in_range c.to_u128_bits.ensures.value c.from_u128_bits.ensures.value).0

pub returns-clause-small : goal.returns-clause-small
returns-clause-small g c =
    let some = (g.met.R.Numbered.width_law c.to_u128_bits.ensures.width).0 in
    let from_bits = from_pattern g.R.Numbered.IS_SIGNED g.R.Numbered.BITS some c.requires (g.R.Numbered.number c.args.register) _ _ c.to_u128_bits.ensures.self_in_range c.to_u128_bits.ensures.value c.from_u128_bits.ensures.value in
    let same : to_z w128 (of_z w128 c.from_u128_bits.result) ≡ g.R.Numbered.number c.args.register = to_z-of_z {w = w128} {z = c.from_u128_bits.result} (search rules) ∙ from_bits.0 in
    rw same from_bits.1
