use Rattle.std.proofs.Common.{refl, rules}
use Rattle.command_core.proofs.opening.open_beside.Goals as goal

pub returns : goal.returns
returns g c = λ old before start so-far tells.
    let all = c.with_workers.ensures.met.1 _ old before start refl so-far tells in search rules
