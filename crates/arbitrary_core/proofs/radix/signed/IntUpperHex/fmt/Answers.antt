use Rattle.std.proofs.Common.{sym}
use Rattle.arbitrary_core.proofs.radix.signed.IntUpperHex.fmt.Goals as goal

pub returns : goal.returns
returns g c = rw (sym c.value.ensures.number) c.upper_hex.ensures
