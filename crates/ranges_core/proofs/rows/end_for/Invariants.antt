use Rattle.std.proofs.Common.{◌≡◌, ◌≤◌, map, filter, length, true}
use Rattle.std.specs.List.{list_all}
use Rattle.ranges_core.specs.Reads.{is_for, is_taken_row}
use Rattle.ranges_core.specs.Reservations.{Adjacent, end_from, next_of, range_in}
use Rattle.ranges_core.proofs.rows.end_for.Given as goal

abbrev pub invariant-loop-row : goal.invariant-loop-row
invariant-loop-row l =
    (l.end ≤ 4294967296) × (list_all is_taken_row l.initial.rest ≡ true → Adjacent 0 (map range_in (filter (is_for l.key l.device) l.initial.rest))
    → (list_all is_taken_row l.rest ≡ true) × Adjacent l.end (map range_in (filter (is_for l.key l.device) l.rest))
    × (end_from l.end (map range_in (filter (is_for l.key l.device) l.rest)) ≡ next_of (map range_in (filter (is_for l.key l.device) l.initial.rest))))

abbrev pub decreases-loop-row : goal.decreases-loop-row
decreases-loop-row l = length l.rest
