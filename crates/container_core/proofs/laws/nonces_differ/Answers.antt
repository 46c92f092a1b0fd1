use Rattle.container_core.proofs.LawLemmas.{nonce_of-injective}
use Rattle.container_core.proofs.laws.nonces_differ.Goals as goal

pub returns : goal.returns
returns c = nonce_of-injective
