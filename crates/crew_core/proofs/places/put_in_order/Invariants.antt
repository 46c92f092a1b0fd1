use Rattle.std.proofs.Common.{◌≤◌, vec_capacity}
use Rattle.crew_core.proofs.OrderLemmas.{IsOrdering}
use Rattle.crew_core.proofs.places.put_in_order.Given as goal

abbrev pub invariant-loop-job : goal.invariant-loop-job
invariant-loop-job l = record {
  ordering : IsOrdering l.jobs l.job l.initial.places l.places l.outcomes.items;
  room : l.jobs ≤ vec_capacity l.outcomes;
}
