use Rattle.worker_core.proofs.ValueLemmas.{length-values, get_or-values}
use Rattle.worker_core.proofs.laws.pieces_by_number.Goals as goal

pub returns-clause-count : goal.returns-clause-count
returns-clause-count c = length-values

pub returns-clause-value : goal.returns-clause-value
returns-clause-value c = get_or-values
