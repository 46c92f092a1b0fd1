-- The pieces so far are appended.
use Rattle.std.proofs.Common.{◌≡◌, ◌≤◌, ◌++◌, take, vec_capacity}
use Rattle.worker_core.specs.Answer.{joined}
use Rattle.worker_core.proofs.places.Places.append_to.Given as goal

abbrev pub invariant-appending : goal.invariant-appending
invariant-appending l = record {
  items : l.out.items ≡ l.fn.out.items ++ joined (take l.number l.self.values);
  room : vec_capacity l.fn.out ≤ vec_capacity l.out;
}
