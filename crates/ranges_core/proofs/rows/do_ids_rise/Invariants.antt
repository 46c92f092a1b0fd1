use Rattle.std.proofs.Common.{length}
use Rattle.ranges_core.specs.Runs.{Chain, IsBelow}
use Rattle.ranges_core.proofs.rows.do_ids_rise.Given as goal

abbrev pub invariant-loop-rest : goal.invariant-loop-rest
invariant-loop-rest l = Chain IsBelow l.rest → Chain IsBelow l.initial.rest

abbrev pub decreases-loop-rest : goal.decreases-loop-rest
decreases-loop-rest l = length l.rest
