use Rattle.std.proofs.Common.{length}
use Rattle.ranges_core.specs.Runs.{Runs}
use Rattle.ranges_core.proofs.rows.first_misfit.Given as goal

abbrev pub invariant-loop-marks : goal.invariant-loop-marks
invariant-loop-marks l = Runs l.marks l.taken → Runs l.initial.marks l.initial.taken

abbrev pub decreases-loop-marks : goal.decreases-loop-marks
decreases-loop-marks l = length l.marks
