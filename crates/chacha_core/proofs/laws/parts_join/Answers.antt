use Rattle.chacha_core.proofs.StreamLemmas.{chacha20-append}
use Rattle.chacha_core.proofs.laws.parts_join.Goals as goal

pub returns : goal.returns
returns c key nonce first second counter blocks whole =
    chacha20-append key nonce counter blocks first second whole
