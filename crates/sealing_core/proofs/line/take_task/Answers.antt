use Rattle.sealing_core.proofs.Moves.{takes}
use Rattle.sealing_core.proofs.line.take_task.Goals as goal

pub try_pop_as-requires-clause-rule : goal.try_pop_as-requires-clause-rule
try_pop_as-requires-clause-rule g c = takes _ _ _ _ c.requires.pass.1
