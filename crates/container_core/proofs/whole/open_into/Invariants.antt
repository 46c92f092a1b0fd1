-- The output is what was there, then what opened so far. Opening the remaining chunks after it gives what opening all
-- of them does.
use Rattle.std.proofs.Common.{◌≡◌, ℕ, ◌+◌, ◌*◌, ◌≤◌, List, ◌++◌, length, drop, min, vec_len, vec_capacity}
use Rattle.container_core.specs.Chunks.{sealed_chunks}
use Rattle.container_core.specs.Opening.{unsealed, behind}
use Rattle.container_core.proofs.whole.open_into.Given as goal

abbrev pub invariant-loop-number : goal.invariant-loop-number
invariant-loop-number l = (plain : List ℕ)
    × (l.out.items ≡ l.fn.out.items ++ plain)
    × (behind plain (unsealed l.key l.header l.number (drop l.number (sealed_chunks l.cut.size l.body))) ≡ unsealed l.key l.header 0 (sealed_chunks l.cut.size l.body))
    × (length plain ≡ min (l.number * l.cut.size) l.cut.plain)
    × (vec_capacity l.fn.out ≤ vec_capacity l.out)
    × (vec_len l.fn.out + l.cut.plain ≤ vec_capacity l.out)
