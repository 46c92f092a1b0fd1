use Rattle.std.proofs.Common.{◌≡◌, None, map, filter, length, true}
use Rattle.std.specs.List.{list_all}
use Rattle.ranges_core.specs.Reads.{is_for, is_taken_row}
use Rattle.ranges_core.specs.Reservations.{range_in}
use Rattle.ranges_core.specs.Runs.{RisesFrom}
use Rattle.ranges_core.proofs.rows.do_ranges_rise.Given as goal

abbrev pub invariant-loop-row : goal.invariant-loop-row
invariant-loop-row l =
    list_all is_taken_row l.initial.rest ≡ true → (list_all is_taken_row l.rest ≡ true)
    × (RisesFrom l.last (map range_in (filter (is_for l.key l.device) l.rest)) → RisesFrom None (map range_in (filter (is_for l.key l.device) l.initial.rest)))

abbrev pub decreases-loop-row : goal.decreases-loop-row
decreases-loop-row l = length l.rest
