use Rattle.reserve_core.proofs.NextRun.{closed_leaves}
use Rattle.reserve_core.proofs.laws.a_closed_connection_passes_on_what_it_found.Goals as goal

pub returns : goal.returns
returns g c files later found last left finds opens still copied may = closed_leaves files later found last left g.met.D.Disk.seen_may_stay finds opens still copied may
