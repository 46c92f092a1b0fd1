-- Each call has fewer benches.
use Rattle.std.proofs.Common.{◌+◌, ◌*◌, length}
use Rattle.worker_core.proofs.workers.+crew.Given as goal

abbrev pub decreases-crew : goal.decreases-crew
decreases-crew g l = 3 * length l.benches.now

abbrev pub decreases-crew_beside : goal.decreases-crew_beside
decreases-crew_beside g l = 3 * length l.benches.now + 2

abbrev pub decreases-crew_beside-join_mut+arg3 : goal.decreases-crew_beside-join_mut+arg3
decreases-crew_beside-join_mut+arg3 g l = 3 * length l.benches.now + 1
