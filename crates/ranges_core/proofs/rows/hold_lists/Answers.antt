use Rattle.std.proofs.Common.{rules, tests}
use Rattle.ranges_core.proofs.Runs.{holds_runs, all_marks, all_taken, no_items}
use Rattle.ranges_core.proofs.rows.hold_lists.Goals as goal
use Rattle.ranges_core.proofs.rows.hold_lists.Goals.{then-not-are_mark_rows-via-then-not-are_mark_rows, then-not-are_mark_rows-via-else-not-are_mark_rows+then-not-are_taken_rows, else-is_empty-via-then-is_empty+else-is_empty-2, else-is_empty-via-else-is_empty, then-is_first_owner_bad-via-then-is_first_owner_bad, then-is_first_owner_bad-via-else-is_first_owner_bad+then-is_first_owner_bad-2}

pub returns-then-not-are_mark_rows-clause-bad : goal.returns-then-not-are_mark_rows-clause-bad
returns-then-not-are_mark_rows-clause-bad c is lists hold =
    let marks = all_marks _ _ lists hold in
    let taken = all_taken _ _ lists hold in
    elim c.then-not-are_mark_rows.branch [ then-not-are_mark_rows-via-then-not-are_mark_rows w ↦ search rules | then-not-are_mark_rows-via-else-not-are_mark_rows+then-not-are_taken_rows w ↦ search rules ]

pub returns-then-is_empty-2-clause-ok : goal.returns-then-is_empty-2-clause-ok
returns-then-is_empty-2-clause-ok c =
    holds_runs c.args.marks.now c.args.taken.now (search rules) (search rules) (search rules) (c.first_misfit.ensures (no_items c.first_misfit.result.0.now (search (rules, tests))) (no_items c.first_misfit.result.1.now (search (rules, tests))))

pub returns-then-is_first_owner_bad-clause-bad : goal.returns-then-is_first_owner_bad-clause-bad
returns-then-is_first_owner_bad-clause-bad c is lists hold =
    let marks = all_marks _ _ lists hold in
    let taken = all_taken _ _ lists hold in
    elim c.then-is_first_owner_bad.branch [
      | then-is_first_owner_bad-via-then-is_first_owner_bad w ↦ c.is_first_owner_bad.ensures marks taken (search rules) lists hold
      | then-is_first_owner_bad-via-else-is_first_owner_bad+then-is_first_owner_bad-2 w ↦ w.is_first_owner_bad-else-is_first_owner_bad.ensures marks taken (search rules) lists hold
    ]
