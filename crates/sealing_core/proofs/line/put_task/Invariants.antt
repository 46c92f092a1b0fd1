use Rattle.std.proofs.Common.{◌≡◌}
use Rattle.crossbeam_queue.specs.Passes.{view, IsPassOf}
use Rattle.sealing_core.proofs.line.put_task.Given as goal

abbrev pub invariant-loop : goal.invariant-loop
invariant-loop g l = IsPassOf l.jobs l.pass × (view l.pass ≡ view l.initial.pass) × (l.task ≡ l.fn.task)
