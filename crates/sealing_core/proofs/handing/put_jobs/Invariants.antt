-- What was put, with what is still to be put.
use Rattle.std.proofs.Common.{◌≡◌, ◌+◌, ◌≤◌, ◌++◌, ℕ, length, deque_capacity}
use Rattle.crossbeam_queue.specs.Passes.{view, IsPassOf}
use Rattle.sealing_core.specs.Hands.{all_numbers}
use Rattle.sealing_core.specs.Order.{empty}
use Rattle.sealing_core.specs.Pieces.{task_numbers}
use Rattle.sealing_core.specs.Round.{AreJobs}
use Rattle.sealing_core.proofs.handing.put_jobs.Given as goal

abbrev pub invariant-putting : goal.invariant-putting
invariant-putting g l = record {
  pass : IsPassOf l.jobs l.into;
  parts : (view l.into).parts ≡ (view l.initial.into).parts;
  taken : (view l.into).taken ≡ (view l.initial.into).taken;
  put : (view l.into).put ++ all_numbers task_numbers l.held.items ≡ (view l.initial.into).put ++ all_numbers task_numbers l.initial.held.items;
  tasks : (put : ℕ) × AreJobs g.N.Naming.each g.N.Naming.header g.N.Naming.told put l.held.items;
  places : l.early.places.items ++ empty (length l.held.items) ≡ l.initial.early.places.items ++ empty (length l.initial.held.items);
  room : length l.early.places.items + length l.held.items ≤ deque_capacity l.early.places;
  same : (l.early.written ≡ l.initial.early.written) × (deque_capacity l.early.places ≡ deque_capacity l.initial.early.places)
      × (deque_capacity l.held ≡ deque_capacity l.initial.held);
}

abbrev pub decreases-putting : goal.decreases-putting
decreases-putting g l = length l.held.items
