use Rattle.std.specs.Prelude.{ℕ, ◌^◌}
use Rattle.std.proofs.Common.{ap, sym, ◌∙◌}
use Rattle.arbitrary_int.proofs.Truncation.{below_residue, residue-same}
use Rattle.bit_fields.proofs.Putting.{masked-is}
use Rattle.bit_fields.proofs.bits_alone.Goals as goal

pub returns-then-IS_SIGNED-clause-value : goal.returns-then-IS_SIGNED-clause-value
returns-then-IS_SIGNED-clause-value g c =
    masked-is g.F.Numbered.BITS c.to_u128_bits-pattern.result c.low_mask.result (g.F.Numbered.number c.args.value) (g.met.F.Numbered.width_law c.to_u128_bits-pattern.ensures.width)
    c.to_u128_bits-pattern.ensures.value (c.low_mask.ensures.value ∙ ap (λ (n : ℕ). 2 ^ n) c.BITS.ensures)

pub returns-else-IS_SIGNED-clause-value : goal.returns-else-IS_SIGNED-clause-value
returns-else-IS_SIGNED-clause-value g c =
    let w = g.met.F.Numbered.width_law c.to_u128_bits-pattern.ensures.width in
    residue-same g.F.Numbered.IS_SIGNED g.F.Numbered.BITS 128 c.to_u128_bits-pattern.result (g.F.Numbered.number c.args.value) (sym c.IS_SIGNED.ensures ∙ c.if-IS_SIGNED.false) w.0 w.1
    c.to_u128_bits-pattern.ensures.self_in_range c.to_u128_bits-pattern.ensures.value

pub returns-else-IS_SIGNED-clause-short : goal.returns-else-IS_SIGNED-clause-short
returns-else-IS_SIGNED-clause-short g c =
    below_residue g.F.Numbered.BITS c.to_u128_bits-pattern.result (g.F.Numbered.number c.args.value) (returns-else-IS_SIGNED-clause-value g c)
