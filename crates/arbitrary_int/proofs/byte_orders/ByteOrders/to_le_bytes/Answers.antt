use Rattle.std.proofs.Common.{◌∙◌, arith}
use Rattle.arbitrary_base.proofs.bytes.NumberOfBytes.{byte-at, bytes-residue, number_of-signed, number_of-unsigned}
use Rattle.arbitrary_int.proofs.byte_orders.ByteOrders.to_le_bytes.Goals as goal

pub returns-clause-bytes : goal.returns-clause-bytes
returns-clause-bytes g c =
    let w = g.met.Self.Numbered.width_law c.to_u128_bits.ensures.width in
    c.copy_from_slice.ensures.after ∙ c.all_bytes-all.ensures g.row.N (omega (arith, w.1, g.met.Self.ByteOrders.width_law))
    ∙ bytes-residue _ _ _ _ w.0 w.1 g.met.Self.ByteOrders.width_law c.to_u128_bits.ensures.value

pub returns-clause-unsigned : goal.returns-clause-unsigned
returns-clause-unsigned g c u =
    number_of-unsigned _ _ _ _ _ g.met.Self.ByteOrders.width_law (g.met.Self.Numbered.width_law c.to_u128_bits.ensures.width).0 c.to_u128_bits.ensures.self_in_range (returns-clause-bytes g c) u

pub returns-clause-plain : goal.returns-clause-plain
returns-clause-plain g c u i h =
    byte-at _ _ _ _ _ _ g.met.Self.ByteOrders.width_law c.to_u128_bits.ensures.self_in_range (returns-clause-bytes g c) u h

pub returns-clause-signed : goal.returns-clause-signed
returns-clause-signed g c u = number_of-signed _ _ _ _ g.met.Self.ByteOrders.width_law (returns-clause-bytes g c)
