use Rattle.arbitrary_int.proofs.SteppingLemmas.{moved_up}
use Rattle.arbitrary_int.proofs.stepping.forward.Goals as goal

pub returns : goal.returns
returns g c = moved_up _ _ _ _ _ _ (g.met.V.Numbered.width_law c.to_u128_bits-known.ensures.width).0 c.requires c.masked_new.ensures.value c.wrapping_add.ensures.value
