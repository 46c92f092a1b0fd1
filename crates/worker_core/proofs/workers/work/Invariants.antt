-- What the worker drew is what it made.
use Rattle.std.proofs.Common.{◌≡◌, map}
use Rattle.claim_core.specs.Claims.{IsOf}
use Rattle.worker_core.specs.Pieces.{number_of}
use Rattle.worker_core.specs.Crew.{IsWorked}
use Rattle.worker_core.proofs.workers.work.Given as goal

abbrev pub invariant-drawing : goal.invariant-drawing
invariant-drawing g l = record {
  ours : IsOf l.claims l.claimant;
  workers : l.claimant.workers ≡ 1;
  ends : l.claimant.ends ≡ 0;
  drawn : l.claimant.drawn ≡ map number_of l.bench.made;
  worked : IsWorked l.round l.fn.bench l.bench;
}

abbrev pub decreases-drawing : goal.decreases-drawing
decreases-drawing g l = l.bench.spare
