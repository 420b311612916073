use Rattle.std.proofs.Common.{sym}
use Rattle.arbitrary_core.proofs.radix.signed.IntBinary.fmt.Goals as goal

pub returns : goal.returns
returns g c = rw (sym c.value.ensures.number) c.binary.ensures
