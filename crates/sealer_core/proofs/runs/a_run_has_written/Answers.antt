use Rattle.sealer_core.proofs.Granted.{of_run}
use Rattle.sealer_core.proofs.runs.a_run_has_written.Goals as goal

pub returns : goal.returns
returns c = of_run
