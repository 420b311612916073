use Rattle.arbitrary_int.proofs.ByteLaws.{reversed_twice}
use Rattle.arbitrary_int.proofs.byte_laws.swapped_twice.Goals as goal

pub returns : goal.returns
returns g c =
    reversed_twice _ _ _ _ _ _ g.met.V.ByteOrders.width_law (g.met.V.Numbered.width_law c.to_u128_bits-known.ensures.width).0 c.to_u128_bits-known.ensures.self_in_range c.to_u128_bits-twice.ensures.self_in_range c.swap_bytes.ensures.bytes c.swap_bytes-twice.ensures.bytes
