-- It is the same round.
use Rattle.std.proofs.Common.{◌≡◌, vec_capacity}
use Rattle.std.specs.Arc.{arc_value}
use Rattle.worker_core.specs.Shared.{owners_view}
use Rattle.worker_core.proofs.lasting.taken_back.Given as goal

abbrev pub invariant-looking : goal.invariant-looking
invariant-looking l = record {
  owned : (arc_value l.shared).owned ≡ (owners_view l.fn.owners).owned;
  size : (arc_value l.shared).size ≡ (owners_view l.fn.owners).size;
  slots : vec_capacity (arc_value l.shared).slots ≡ (owners_view l.fn.owners).slots;
}
