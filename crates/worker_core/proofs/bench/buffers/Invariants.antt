use Rattle.std.proofs.Common.{◌≡◌, ◌≤◌, [], All, vec_len, vec_capacity}
use Rattle.worker_core.proofs.bench.buffers.Given as goal

abbrev pub invariant-loop-n : goal.invariant-loop-n
invariant-loop-n l = record {
  count : vec_len l.buffers ≡ l._n;
  room : l.count ≤ vec_capacity l.buffers;
  empty : All (λ b. b.items ≡ []) l.buffers.items;
  each : All (λ b. l.size ≤ vec_capacity b) l.buffers.items;
}
