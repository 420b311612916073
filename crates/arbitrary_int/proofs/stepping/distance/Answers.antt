use Rattle.arbitrary_int.proofs.SteppingLemmas.{apart_by}
use Rattle.arbitrary_int.proofs.stepping.distance.Goals as goal

pub returns : goal.returns
returns g c =
    let w = g.met.V.Numbered.width_law c.to_u128_bits-first.ensures.width in
    apart_by _ _ _ _ _ _ _ w.0 w.1 c.to_u128_bits-first.ensures.self_in_range c.to_u128_bits-last.ensures.self_in_range c.requires c.as_u128.ensures.value c.as_u128-2.ensures.value c.wrapping_sub.ensures
