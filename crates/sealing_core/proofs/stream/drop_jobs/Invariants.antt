use Rattle.std.proofs.Common.{◌≡◌}
use Rattle.crossbeam_queue.specs.Passes.{view, IsPassOf}
use Rattle.sealing_core.proofs.stream.drop_jobs.Given as goal

abbrev pub invariant-jobs : goal.invariant-jobs
invariant-jobs g l = IsPassOf l.jobs l.into × ((view l.into).parts ≡ (view l.initial.into).parts)
