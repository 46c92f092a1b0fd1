use Rattle.std.proofs.Common.{◌≡◌, arith}
use Rattle.chacha_core.proofs.eight.apply_group.Goals as goal

pub rounds-init : goal.rounds-init
rounds-init c first key nonce began = began

pub rounds-preserved : goal.rounds-preserved
rounds-preserved c first key nonce began =
    c.double_round-y.ensures c.rounds._round first key nonce (c.rounds.invariant first key nonce began)

pub returns : goal.returns
returns c first key nonce began =
    let done : c.rounds._round ≡ 10 = omega arith in
    c.xor_group.ensures first key nonce began (rw done at (c.rounds.invariant first key nonce began))
