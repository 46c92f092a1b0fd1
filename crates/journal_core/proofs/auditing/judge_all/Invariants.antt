-- The bytes read so far were judged, and no read failed.
use Rattle.std.proofs.Common.{◌≡◌, ◌≤◌, ◌<◌, ℕ, ◌-◌, List, length, vec_len}
use Rattle.io_core.specs.Streams.{Consumes}
use Rattle.journal_core.specs.Audit.{HasRead}
use Rattle.journal_core.proofs.auditing.judge_all.Given as goal

abbrev pub invariant-input : goal.invariant-input
invariant-input g l =
    (done : List ℕ) × Consumes (g.R.Source.left l.initial.reader) (g.R.Source.left l.reader) done × HasRead l.progress done
    × (length done ≡ l.read) × (l.progress.lines ≤ l.read) × (l.read < 18446744073709551615) × (0 < vec_len l.block)
    × (g.R.Source.failures l.reader ≡ g.R.Source.failures l.initial.reader)

abbrev pub decreases-input : goal.decreases-input
decreases-input g l = 18446744073709551615 - l.read
