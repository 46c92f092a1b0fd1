use Rattle.std.proofs.Common.{◌+◌, ◌*◌}
use Rattle.crew_core.proofs.lanes.+lanes.Given as goal

abbrev pub decreases-work_lanes : goal.decreases-work_lanes
decreases-work_lanes g l = 3 * l.upto

abbrev pub decreases-work_both : goal.decreases-work_both
decreases-work_both g l = 3 * l.last + 2

abbrev pub decreases-work_both-here : goal.decreases-work_both-here
decreases-work_both-here g l = 3 * l.last + 1
