use Rattle.worker_core.proofs.LawLemmas.{refused-checking}
use Rattle.worker_core.proofs.laws.rounds_are_checked.Goals as goal

pub returns : goal.returns
returns c = refused-checking
