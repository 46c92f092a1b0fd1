-- Each call has fewer letter boxes.
use Rattle.std.proofs.Common.{◌+◌, ◌*◌, length}
use Rattle.worker_core.proofs.lasting.+beside_workers.Given as goal

abbrev pub decreases-beside_workers : goal.decreases-beside_workers
decreases-beside_workers g l = 3 * length l.boxes.now

abbrev pub decreases-beside_worker : goal.decreases-beside_worker
decreases-beside_worker g l = 3 * length l.boxes.now + 2

abbrev pub decreases-beside_worker-join_mut+arg3 : goal.decreases-beside_worker-join_mut+arg3
decreases-beside_worker-join_mut+arg3 g l = 3 * length l.boxes.now + 1
