use Rattle.chacha_core.proofs.StreamLemmas.{chacha20-chacha20}
use Rattle.chacha_core.proofs.laws.twice_gives_back.Goals as goal

pub returns : goal.returns
returns c key nonce text counter = chacha20-chacha20 key nonce counter text
