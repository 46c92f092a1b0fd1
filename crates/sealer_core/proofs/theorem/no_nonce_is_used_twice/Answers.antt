use Rattle.sealer_core.proofs.Nonces.{begins, each, once}
use Rattle.sealer_core.proofs.theorem.no_nonce_is_used_twice.Goals as goal

pub returns-clause-sealed : goal.returns-clause-sealed
returns-clause-sealed c key runs place are at = begins key runs are place at

pub returns-clause-each : goal.returns-clause-each
returns-clause-each c key runs place chunk are at = each key runs are place chunk at

pub returns-clause-once : goal.returns-clause-once
returns-clause-once c key runs one other chunk another nonce are at also = once key runs are
    (λ one other at also. c.no_two_outputs_have_one_prefix.ensures key runs one other are at also) one other chunk another nonce at also
