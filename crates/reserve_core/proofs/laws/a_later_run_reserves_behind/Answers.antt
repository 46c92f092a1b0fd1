use Rattle.reserve_core.proofs.NextRun.{reserves_behind}
use Rattle.reserve_core.proofs.laws.a_later_run_reserves_behind.Goals as goal

pub returns : goal.returns
returns g c files last between keeper before lists are on found hold key device i range at =
    reserves_behind g.T.Store files last between keeper before lists are on found hold key device i range at
