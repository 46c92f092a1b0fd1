use Rattle.std.proofs.Common.{◌≡◌, [], All, vec_len}
use Rattle.worker_core.specs.Pieces.{all_made}
use Rattle.worker_core.specs.Crew.{IsOfCrew}
use Rattle.worker_core.proofs.rounds.benches_of.Given as goal

abbrev pub invariant-loop-n : goal.invariant-loop-n
invariant-loop-n l = record {
  count : vec_len l.benches ≡ l._n;
  each : All (IsOfCrew l.room l.size) l.benches.items;
  made : all_made l.benches.items ≡ [];
}
