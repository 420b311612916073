use Rattle.bitrun_service.proofs.Unique.{one_bad_line}
use Rattle.bitrun_service.proofs.laws.one_bad_line.Goals as goal

pub returns : goal.returns
returns c = one_bad_line
