-- The filled bytes were read, and no read failed.
use Rattle.std.proofs.Common.{◌≡◌, ◌≤◌, ◌-◌, length, take}
use Rattle.io_core.specs.Streams.{Consumes}
use Rattle.io_core.proofs.input.fill.Given as goal

abbrev pub invariant-loop-filled : goal.invariant-loop-filled
invariant-loop-filled g l = (l.filled ≤ length l.buffer) × Consumes (g.R.Source.left l.initial.source) (g.R.Source.left l.source) (take l.filled l.buffer)
    × (g.R.Source.failures l.source ≡ g.R.Source.failures l.initial.source)

abbrev pub decreases-loop-filled : goal.decreases-loop-filled
decreases-loop-filled g l = length l.buffer - l.filled
