-- The lines so far were printed, and no write failed.
use Rattle.std.proofs.Common.{◌≡◌, map, take}
use Rattle.io_core.specs.Streams.{Appends}
use Rattle.system_files.specs.Kept.{kept_text}
use Rattle.system_files.proofs.kept.print_kept.Given as goal

abbrev pub invariant-loop-name : goal.invariant-loop-name
invariant-loop-name g l = Appends (g.W.Sink.taken l.initial.lines) (g.W.Sink.taken l.lines)
    (kept_text (map (λ name. name.now) (take l.name-index l.names)))
    × (g.W.Sink.failures l.lines ≡ g.W.Sink.failures l.initial.lines)
