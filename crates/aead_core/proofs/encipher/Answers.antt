use Rattle.aead_core.specs.Aead.{enciphered}
use Rattle.aead_core.proofs.encipher.Goals as goal

pub returns : goal.returns
unfolding enciphered
returns c = c.apply.ensures
