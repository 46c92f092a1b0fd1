use Rattle.aead_core.proofs.AeadLemmas.{opened-aead}
use Rattle.aead_core.proofs.laws.sealed_opens.Goals as goal

pub returns : goal.returns
returns c key nonce aad plaintext = opened-aead key nonce aad plaintext
