use Rattle.worker_core.proofs.LawLemmas.{named-opening}
use Rattle.worker_core.proofs.laws.rounds_are_opened.Goals as goal

pub returns : goal.returns
returns c = named-opening
