use Rattle.std.proofs.Common.{length}
use Rattle.ranges_core.specs.Runs.{Chain, IsBefore}
use Rattle.ranges_core.proofs.rows.are_ordered.Given as goal

abbrev pub invariant-loop-rest : goal.invariant-loop-rest
invariant-loop-rest l = Chain IsBefore l.rest → Chain IsBefore l.initial.rest

abbrev pub decreases-loop-rest : goal.decreases-loop-rest
decreases-loop-rest l = length l.rest
