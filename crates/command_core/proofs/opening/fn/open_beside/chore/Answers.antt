use Rattle.std.proofs.Common.{◌≡◌, rules}
use Rattle.command_core.proofs.opening.fn.open_beside.chore.Goals as goal

pub returns : goal.returns
returns g c = λ reader old before start is so-far tells.
    let same : c.in-Some.reader ≡ reader = search rules in
    c.open_from.ensures old before start so-far (rw same tells)
