use Rattle.std.proofs.Common.{◌≡◌, ◌≤◌, List, ◌++◌, map, length, true}
use Rattle.std.specs.List.{AllByRecursion}
use Rattle.sqlite.specs.Order.{Row}
use Rattle.ranges_core.specs.Reads.{is_for}
use Rattle.ranges_core.specs.Reservations.{Adjacent, next_of, range_in}
use Rattle.ranges_core.proofs.rows.rest_after.Given as goal

abbrev pub invariant-loop-row : goal.invariant-loop-row
invariant-loop-row l =
    (l.end ≤ 4294967296) × (run : List Row) × (l.initial.rest ≡ run ++ l.rest) × AllByRecursion (λ t. is_for l.key l.device t ≡ true) run × Adjacent 0 (map range_in run) × (l.end ≡ next_of (map range_in run))

abbrev pub decreases-loop-row : goal.decreases-loop-row
decreases-loop-row l = length l.rest
