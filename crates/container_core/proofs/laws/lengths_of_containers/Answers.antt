use Rattle.container_core.proofs.PartsLemmas.{has_plaintext-of, plaintext_of-has}
use Rattle.container_core.proofs.laws.lengths_of_containers.Goals as goal

pub returns : goal.returns
returns c = λ header size most bytes. (
  λ has. plaintext_of-has header size most bytes has,
  λ found. has_plaintext-of header size most bytes found.0 found.1 found.2,
)
