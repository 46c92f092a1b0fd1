use Rattle.std.proofs.Common.{[], length}
use Rattle.ranges_core.specs.Runs.{RunsFrom}
use Rattle.ranges_core.proofs.pass.are_complete.Given as goal

abbrev pub invariant-loop-left : goal.invariant-loop-left
invariant-loop-left l = RunsFrom l.last l.left [] → RunsFrom l.initial.last l.initial.left []

abbrev pub decreases-loop-left : goal.decreases-loop-left
decreases-loop-left l = length l.left
