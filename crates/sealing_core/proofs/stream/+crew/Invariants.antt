use Rattle.std.proofs.Common.{◌+◌, ◌*◌}
use Rattle.sealing_core.proofs.stream.+crew.Given as goal

abbrev pub decreases-crew : goal.decreases-crew
decreases-crew g l = 2 * l.upto

abbrev pub decreases-here : goal.decreases-here
decreases-here g l = 2 * l.last + 1
