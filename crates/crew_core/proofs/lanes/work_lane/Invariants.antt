use Rattle.std.proofs.Common.{◌≡◌, ◌-◌, ◌≤◌, length}
use Rattle.crew_core.specs.Lanes.{IsLaneWorked, claimant_of}
use Rattle.crew_core.specs.Places.{jobs_of}
use Rattle.crew_core.proofs.lanes.work_lane.Given as goal

abbrev pub invariant-loop-job : goal.invariant-loop-job
invariant-loop-job g l = record {
  worked : IsLaneWorked l.batch l.lane l.initial.seat l.seat l.places.done;
  drawn : l.claimant ≡ claimant_of l.batch.claims 1 (jobs_of l.places.done) 0;
  room : length l.batch.jobs ≤ l.places.room;
}

abbrev pub decreases-loop-job : goal.decreases-loop-job
decreases-loop-job g l = length l.batch.jobs - length l.places.done
