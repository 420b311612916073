use Rattle.arbitrary_int.proofs.SteppingLemmas.{moved_down}
use Rattle.arbitrary_int.proofs.stepping.backward.Goals as goal

pub returns : goal.returns
returns g c = moved_down _ _ _ _ _ _ (g.met.V.Numbered.width_law c.to_u128_bits-known.ensures.width).0 c.requires c.masked_new.ensures.value c.wrapping_sub.ensures.value
