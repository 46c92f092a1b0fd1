-- What was read, put, written, and is in hand.
use Rattle.std.proofs.Common.{◌≡◌, ◌+◌, ◌≤◌, All, length, deque_capacity}
use Rattle.crossbeam_queue.specs.Passes.{view, IsPassOf}
use Rattle.sealing_core.specs.Hands.{hands_view}
use Rattle.sealing_core.specs.Order.{AreWritten}
use Rattle.sealing_core.specs.Pieces.{room}
use Rattle.sealing_core.specs.Round.{IsHanded, IsUnderWay}
use Rattle.sealing_core.proofs.feed.run_rounds.Given as goal

abbrev pub invariant-loop : goal.invariant-loop
invariant-loop g l = record {
  jobs : IsPassOf l.queues.jobs.now l.hands.into;
  pieces : IsPassOf l.queues.pieces.now l.hands.from;
  parts : ((view l.hands.into).parts ≡ (view l.initial.hands.into).parts) × ((view l.hands.from).parts ≡ (view l.initial.hands.from).parts);
  way : IsUnderWay g.N.Naming.each g.N.Naming.key g.N.Naming.header g.N.Naming.told (g.R.Source.left l.reader) l.plan l.early (hands_view (view l.hands.into) (view l.hands.from)) l.round;
  handed : IsHanded l.plan.group l.round;
  spare : All (λ b. length b.items ≡ room g.N.Naming.each g.N.Naming.header) l.spare.items;
  room : (l.plan.depth ≤ deque_capacity l.early.places) × (l.plan.group ≤ deque_capacity l.round.held)
      × (length l.early.places.items + length l.round.held.items ≤ l.plan.depth);
  written : AreWritten g.N.Naming.each l.front g.N.Naming.key g.N.Naming.header g.N.Naming.told (g.W.Output.taken l.fn.writer) (g.W.Output.taken l.writer) l.early.written;
  bound : g.W.Output.bound l.writer ≡ g.W.Output.bound l.fn.writer;
  failures : g.R.Source.failures l.reader ≡ g.R.Source.failures l.fn.reader;
  refusals : g.W.Output.failures l.writer ≡ g.W.Output.failures l.fn.writer;
}
