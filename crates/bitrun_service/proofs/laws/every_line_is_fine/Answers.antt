use Rattle.bitrun_service.proofs.WholeOutputs.{output_is_fine}
use Rattle.bitrun_service.proofs.laws.every_line_is_fine.Goals as goal

pub returns : goal.returns
returns c = output_is_fine
