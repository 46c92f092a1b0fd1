-- What is gone from `rest` was written, no call failed, and the rest may follow.
use Rattle.std.proofs.Common.{◌≡◌, ℕ, List, ◌++◌, length}
use Rattle.io_core.specs.Streams.{Appends}
use Rattle.output_core.specs.Bounds.{Admits}
use Rattle.output_core.proofs.output.put_all.Given as goal

abbrev pub invariant-rest : goal.invariant-rest
invariant-rest g l =
    (done : List ℕ) × (l.initial.rest ≡ done ++ l.rest)
    × Appends (g.W.Output.taken l.initial.output) (g.W.Output.taken l.output) done
    × (g.W.Output.failures l.output ≡ g.W.Output.failures l.initial.output)
    × (g.W.Output.bound l.output ≡ g.W.Output.bound l.initial.output)
    × Admits (g.W.Output.bound l.output) (g.W.Output.taken l.output) l.rest

abbrev pub decreases-rest : goal.decreases-rest
decreases-rest g l = length l.rest
