use Rattle.std.proofs.Common.{◌≡◌, filter, length, true}
use Rattle.std.specs.List.{list_all}
use Rattle.ranges_core.specs.Reads.{is_for, is_mark_row}
use Rattle.ranges_core.proofs.rows.next_for.Given as goal

abbrev pub invariant-loop-rest : goal.invariant-loop-rest
invariant-loop-rest l =
    (list_all is_mark_row l.initial.rest ≡ true → list_all is_mark_row l.rest ≡ true) × (filter (is_for l.key l.device) l.initial.rest ≡ filter (is_for l.key l.device) l.rest)

abbrev pub decreases-loop-rest : goal.decreases-loop-rest
decreases-loop-rest l = length l.rest
