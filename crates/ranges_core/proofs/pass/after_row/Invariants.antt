use Rattle.std.proofs.Common.{◌≤◌, List, length}
use Rattle.sqlite.specs.Order.{Row}
use Rattle.ranges_core.specs.Runs.{RunsFrom}
use Rattle.ranges_core.proofs.pass.after_row.Given as goal

abbrev pub invariant-loop-mark : goal.invariant-loop-mark
invariant-loop-mark l = (l.last ≤ 4294967296) × ((more : List Row) → RunsFrom l.last l.left more → RunsFrom l.initial.last l.initial.left more)

abbrev pub decreases-loop-mark : goal.decreases-loop-mark
decreases-loop-mark l = length l.left
