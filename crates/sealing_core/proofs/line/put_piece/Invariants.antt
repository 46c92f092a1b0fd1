use Rattle.std.proofs.Common.{◌≡◌}
use Rattle.crossbeam_queue.specs.Passes.{view, IsPassOf}
use Rattle.sealing_core.proofs.line.put_piece.Given as goal

abbrev pub invariant-loop : goal.invariant-loop
invariant-loop g l = IsPassOf l.pieces l.pass × (view l.pass ≡ view l.initial.pass) × (l.piece ≡ l.fn.piece)
