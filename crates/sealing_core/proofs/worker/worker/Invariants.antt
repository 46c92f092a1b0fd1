use Rattle.crossbeam_queue.specs.Passes.{view, IsPassOf}
use Rattle.sealing_core.specs.Hands.{HasRelayed}
use Rattle.sealing_core.proofs.worker.worker.Given as goal

abbrev pub invariant-loop : goal.invariant-loop
invariant-loop g l = record {
  jobs : IsPassOf l.queues.jobs.now l.from;
  pieces : IsPassOf l.queues.pieces.now l.into;
  relayed : HasRelayed 1 (view l.from) (view l.into);
}
