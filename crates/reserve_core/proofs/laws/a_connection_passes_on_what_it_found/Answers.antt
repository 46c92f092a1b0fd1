use Rattle.reserve_core.proofs.NextRun.{opened_leaves}
use Rattle.reserve_core.proofs.laws.a_connection_passes_on_what_it_found.Goals as goal

pub returns : goal.returns
returns g c files later found last finds opens still clean kept may = opened_leaves files later found last g.met.D.Disk.seen_may_stay finds opens still clean kept may
