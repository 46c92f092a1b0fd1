use Rattle.chacha_core.proofs.StreamLemmas.{length-chacha20}
use Rattle.chacha_core.proofs.laws.length_stays.Goals as goal

pub returns : goal.returns
returns c key nonce text counter = length-chacha20 key nonce counter text
