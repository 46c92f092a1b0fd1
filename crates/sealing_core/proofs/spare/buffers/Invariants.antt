use Rattle.std.proofs.Common.{◌≡◌, ◌≤◌, All, length, vec_len, vec_capacity}
use Rattle.sealing_core.proofs.spare.buffers.Given as goal

abbrev pub invariant-making : goal.invariant-making
invariant-making l = (vec_len l.spare ≡ l.counter) × (l.count ≤ vec_capacity l.spare) × All (λ b. length b.items ≡ l.size) l.spare.items
