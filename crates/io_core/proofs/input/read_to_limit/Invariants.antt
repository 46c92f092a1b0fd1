-- The bytes so far were read, and no read failed.
use Rattle.std.proofs.Common.{◌≡◌, ◌≤◌, ◌-◌, vec_len}
use Rattle.io_core.specs.Streams.{Consumes}
use Rattle.io_core.proofs.input.read_to_limit.Given as goal

abbrev pub invariant-loop-window : goal.invariant-loop-window
invariant-loop-window g l = (vec_len l.bytes ≤ l.limit) × Consumes (g.R.Source.left l.fn.source) (g.R.Source.left l.source) l.bytes.items
    × (g.R.Source.failures l.source ≡ g.R.Source.failures l.fn.source)

abbrev pub decreases-loop-window : goal.decreases-loop-window
decreases-loop-window g l = l.limit - vec_len l.bytes
