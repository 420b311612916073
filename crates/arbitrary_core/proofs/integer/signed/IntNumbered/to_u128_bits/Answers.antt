use Rattle.std.specs.Prelude.{◌≡◌}
use Rattle.std.proofs.Common.{ap, le_trans, ◌∙◌}
use Rattle.arbitrary_base.specs.Residue.{residue}
use Rattle.arbitrary_traits.proofs.Conversion.{pattern-of_unsigned}
use Rattle.arbitrary_core.proofs.integer.signed.IntNumbered.to_u128_bits.Goals as goal

pub returns : goal.returns
returns g c =
    let e : c.to_u128_bits.result ≡ residue 128 c.args.self = c.to_u128_bits.ensures ∙ ap (residue 128) c.value.ensures.number in
    let width = le_trans c.value.ensures.width.1 g.met.T.Storage.width_law.1 in
    let range = c.value.ensures.self_in_range in
    record { value = e; plain = pattern-of_unsigned _ _ _ _ width range e; self_in_range = range; width = c.value.ensures.width }
