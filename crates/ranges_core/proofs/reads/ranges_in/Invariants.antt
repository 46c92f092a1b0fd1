use Rattle.std.proofs.Common.{◌≡◌, ◌≤◌, ◌++◌, map, length, true}
use Rattle.std.specs.List.{list_all}
use Rattle.ranges_core.specs.Reads.{is_range_row}
use Rattle.ranges_core.specs.Reservations.{Adjacent, next_of, answered_range, ranges_of_pairs}
use Rattle.ranges_core.proofs.reads.ranges_in.Given as goal

abbrev pub invariant-loop-row : goal.invariant-loop-row
invariant-loop-row l =
    (l.end ≤ 4294967296) × (ranges_of_pairs l.ranges.items ++ map answered_range l.rest ≡ map answered_range l.initial.rest) × Adjacent 0 (ranges_of_pairs l.ranges.items) × (l.end ≡ next_of (ranges_of_pairs l.ranges.items))
    × (list_all is_range_row l.initial.rest ≡ true → list_all is_range_row l.rest ≡ true)

abbrev pub decreases-loop-row : goal.decreases-loop-row
decreases-loop-row l = length l.rest
