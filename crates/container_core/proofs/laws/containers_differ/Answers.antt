use Rattle.container_core.proofs.LawLemmas.{names-injective, container-injective}
use Rattle.container_core.proofs.laws.containers_differ.Goals as goal

pub returns-clause-shape : goal.returns-clause-shape
returns-clause-shape c = names-injective

pub returns-clause-plaintext : goal.returns-clause-plaintext
returns-clause-plaintext c = container-injective
