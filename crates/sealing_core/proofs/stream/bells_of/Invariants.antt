use Rattle.std.proofs.Common.{◌≡◌, ◌≤◌, length, vec_len, vec_capacity}
use Rattle.sealing_core.proofs.stream.bells_of.Given as goal

abbrev pub invariant-bells : goal.invariant-bells
invariant-bells l = (vec_len l.bells ≡ l.counter) × (length l.bells.items ≡ l.counter) × (l.workers ≤ vec_capacity l.bells)
