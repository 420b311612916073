use Rattle.std.proofs.Common.{rules}
use Rattle.arbitrary_int.proofs.ByteLaws.{shared}
use Rattle.arbitrary_int.proofs.byte_laws.share_borsh_bytes.Goals as goal

pub returns : goal.returns
returns g c =
    shared _ _ _ _ _ _ _ (g.met.V.Numbered.width_law c.to_u128_bits-x.ensures.width).0 c.to_u128_bits-x.ensures.self_in_range c.to_u128_bits-y.ensures.self_in_range c.to_borsh_bytes-first_count.ensures.bytes c.to_borsh_bytes-second_count.ensures.bytes (search rules)
