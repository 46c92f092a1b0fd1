use Rattle.sealer_core.proofs.Lives.{apart}
use Rattle.sealer_core.proofs.laws.ranges_of_a_life_are_apart.Goals as goal

pub returns : goal.returns
returns c = apart
