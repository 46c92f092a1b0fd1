use Rattle.container_core.proofs.LawLemmas.{opens_exactly, opens_sealed}
use Rattle.container_core.proofs.laws.opens_exactly_its_container.Goals as goal

pub returns-clause-exactly : goal.returns-clause-exactly
returns-clause-exactly c = opens_exactly

pub returns-clause-sealed : goal.returns-clause-sealed
returns-clause-sealed c = opens_sealed
