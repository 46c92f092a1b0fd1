use Rattle.sealer_core.proofs.Lives.{one_grant}
use Rattle.sealer_core.proofs.laws.no_prefix_is_granted_twice.Goals as goal

pub returns : goal.returns
returns c = one_grant
