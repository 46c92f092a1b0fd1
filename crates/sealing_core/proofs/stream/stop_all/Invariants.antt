use Rattle.std.proofs.Common.{◌≡◌}
use Rattle.crossbeam_queue.specs.Passes.{view, IsPassOf}
use Rattle.sealing_core.proofs.stream.stop_all.Given as goal

abbrev pub invariant-stops : goal.invariant-stops
invariant-stops g l = IsPassOf l.jobs l.into × (view l.into ≡ view l.initial.into)
