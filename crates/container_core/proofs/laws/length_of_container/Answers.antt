use Rattle.container_core.proofs.OpeningLemmas.{length-container}
use Rattle.container_core.proofs.laws.length_of_container.Goals as goal

pub returns : goal.returns
returns c = length-container
