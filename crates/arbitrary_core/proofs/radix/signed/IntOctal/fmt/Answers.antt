use Rattle.std.proofs.Common.{sym}
use Rattle.arbitrary_core.proofs.radix.signed.IntOctal.fmt.Goals as goal

pub returns : goal.returns
returns g c = rw (sym c.value.ensures.number) c.octal.ensures
