use Rattle.std.proofs.Common.{true}
use Rattle.worker_core.proofs.ValueLemmas.{length-values}
use Rattle.piece_core.specs.Values.{task_of}
use Rattle.piece_core.proofs.ValueLemmas.{get_or-work_values}
use Rattle.piece_core.proofs.laws.pieces_of_a_work.Goals as goal

pub returns-clause-count : goal.returns-clause-count
returns-clause-count c = λ kind key header body. length-values (task_of kind) key header 0 true body

pub returns-clause-value : goal.returns-clause-value
returns-clause-value c = get_or-work_values
