use Rattle.aead_core.proofs.AeadLemmas.{length-enciphered, length-tag_of}
use Rattle.aead_core.proofs.laws.lengths.Goals as goal

pub returns-clause-ciphertext : goal.returns-clause-ciphertext
returns-clause-ciphertext c key nonce text = length-enciphered key nonce text

pub returns-clause-tag : goal.returns-clause-tag
returns-clause-tag c key nonce aad ciphertext = length-tag_of key nonce aad ciphertext
