use Rattle.bitrun_service.proofs.Unique.{one_output}
use Rattle.bitrun_service.proofs.laws.one_output.Goals as goal

pub returns : goal.returns
returns c = one_output
