use Rattle.container_core.proofs.LawLemmas.{sealed-opens}
use Rattle.container_core.proofs.OpeningLemmas.{opening-container}
use Rattle.container_core.proofs.laws.sealed_opens.Goals as goal

pub returns-clause-within : goal.returns-clause-within
returns-clause-within c = opening-container

pub returns-clause-sealed : goal.returns-clause-sealed
returns-clause-sealed c = sealed-opens
