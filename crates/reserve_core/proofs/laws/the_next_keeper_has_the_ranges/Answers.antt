use Rattle.reserve_core.proofs.NextRun.{found_begins}
use Rattle.reserve_core.proofs.laws.the_next_keeper_has_the_ranges.Goals as goal

pub returns : goal.returns
returns g c files keeper before lists are found hold = found_begins g.T.Store files keeper before lists are found hold
