use Rattle.std.proofs.Common.{refl}
use Rattle.arbitrary_int.proofs.StepLemmas.{zero_test}
use Rattle.arbitrary_int.proofs.runs.is_zero.Goals as goal

pub returns : goal.returns
returns g c =
    zero_test g.R.Numbered.IS_SIGNED g.R.Numbered.BITS c.to_u128_bits.result (g.R.Numbered.number c.args.x) _ (g.met.R.Numbered.width_law c.to_u128_bits.ensures.width) c.to_u128_bits.ensures.self_in_range
    c.to_u128_bits.ensures.value refl
