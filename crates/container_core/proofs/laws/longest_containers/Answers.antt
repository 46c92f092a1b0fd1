use Rattle.container_core.proofs.FaultLemmas.{longest-one, longest-two, longest-good}
use Rattle.container_core.proofs.laws.longest_containers.Goals as goal

pub returns-clause-one : goal.returns-clause-one
returns-clause-one c = λ bytes most. longest-one most bytes

pub returns-clause-two : goal.returns-clause-two
returns-clause-two c = λ bytes most. longest-two most bytes

pub returns-clause-good : goal.returns-clause-good
returns-clause-good c = λ key bytes most. longest-good key most bytes
