use Rattle.sealer_core.proofs.Lives.{container_under}
use Rattle.sealer_core.proofs.laws.containers_are_sealed_under_their_nonces.Goals as goal

pub returns : goal.returns
returns c = container_under
