use Rattle.std.proofs.Common.{◌∙◌, sym, subst}
use Rattle.arbitrary_base.specs.ByteLists.{Canonical}
use Rattle.arbitrary_base.proofs.bytes.NumberOfBytes.{Borsh-canonical, Borsh-unique}
use Rattle.arbitrary_int.proofs.byte_laws.through_borsh_bytes.Goals as goal

pub from_borsh_bytes-requires : goal.from_borsh_bytes-requires
from_borsh_bytes-requires g c = c.to_u128_bits-known.ensures.width

pub returns-in_err-read : goal.returns-in_err-read
returns-in_err-read g c = absurd (c.in_err-read.ensures.bytes (subst (Canonical g.V.Numbered.BITS) (sym c.to_borsh_bytes-count.ensures.bytes) (Borsh-canonical _ _)))

pub returns : goal.returns
returns g c =
    Borsh-unique _ _ _ _ (g.met.V.Numbered.width_law c.to_u128_bits-known.ensures.width).0 c.to_u128_bits-read.ensures.self_in_range c.to_u128_bits-known.ensures.self_in_range (c.in_ok-read.ensures.bytes.1 ∙ c.to_borsh_bytes-count.ensures.bytes)
