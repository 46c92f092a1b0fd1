-- What is gone from `rest` was written, and no write failed.
use Rattle.std.proofs.Common.{◌≡◌, ℕ, List, ◌++◌, length}
use Rattle.io_core.specs.Streams.{Appends}
use Rattle.io_core.proofs.output.write_all.Given as goal

abbrev pub invariant-rest : goal.invariant-rest
invariant-rest g l =
    (done : List ℕ) × (l.initial.rest ≡ done ++ l.rest) × Appends (g.W.Sink.taken l.initial.sink) (g.W.Sink.taken l.sink) done
    × (g.W.Sink.failures l.sink ≡ g.W.Sink.failures l.initial.sink)

abbrev pub decreases-rest : goal.decreases-rest
decreases-rest g l = length l.rest
