use Rattle.sealer_core.proofs.Lives.{one_granted_nonce}
use Rattle.sealer_core.proofs.laws.no_granted_nonce_is_used_twice.Goals as goal

pub returns : goal.returns
returns c = one_granted_nonce
