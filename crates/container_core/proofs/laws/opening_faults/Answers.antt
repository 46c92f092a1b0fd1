use Rattle.container_core.proofs.LawLemmas.{opening-of_bytes}
use Rattle.container_core.proofs.laws.opening_faults.Goals as goal

pub returns : goal.returns
returns c = λ key bytes most fault e. opening-of_bytes key most bytes fault e
