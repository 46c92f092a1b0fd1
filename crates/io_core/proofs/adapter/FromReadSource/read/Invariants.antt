-- The interrupted reads took nothing.
use Rattle.std.proofs.Common.{◌≡◌, length}
use Rattle.io_core.specs.Streams.{Keeps}
use Rattle.io_core.proofs.adapter.FromReadSource.read.Given as goal

abbrev pub invariant-loop : goal.invariant-loop
invariant-loop g l = (length l.buffer ≡ length l.initial.buffer) × Keeps (g.R.Read.remaining l.initial.self.0) (g.R.Read.remaining l.self.0)
