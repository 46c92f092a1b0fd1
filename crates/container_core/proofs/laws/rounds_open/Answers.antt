use Rattle.container_core.proofs.RoundLemmas.{unsealed_by-true, unsealed_by-opened, unsealed_by-refused}
use Rattle.container_core.proofs.RoundLemmas.{length-opened_round}
use Rattle.container_core.proofs.laws.rounds_open.Goals as goal

pub returns-clause-whole : goal.returns-clause-whole
returns-clause-whole c = unsealed_by-true

pub returns-clause-opened : goal.returns-clause-opened
returns-clause-opened c = unsealed_by-opened

pub returns-clause-refused : goal.returns-clause-refused
returns-clause-refused c = unsealed_by-refused

pub returns-clause-length : goal.returns-clause-length
returns-clause-length c = length-opened_round
