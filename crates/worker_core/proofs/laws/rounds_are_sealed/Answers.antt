use Rattle.worker_core.proofs.LawLemmas.{joined-sealing, none_refused-sealing}
use Rattle.worker_core.proofs.laws.rounds_are_sealed.Goals as goal

pub returns-clause-all : goal.returns-clause-all
returns-clause-all c = none_refused-sealing

pub returns-clause-joined : goal.returns-clause-joined
returns-clause-joined c = joined-sealing
