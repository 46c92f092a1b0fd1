use Rattle.aead_core.proofs.AeadLemmas.{aead-opened}
use Rattle.aead_core.proofs.laws.opened_was_sealed.Goals as goal

pub returns : goal.returns
returns c key nonce aad ciphertext tag plaintext e = aead-opened key nonce aad ciphertext tag plaintext e
