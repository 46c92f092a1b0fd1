use Rattle.std.proofs.Common.{◌≡◌, ◌≤◌, List, [], false, true}
use Rattle.std.specs.List.{list_all}
use Rattle.sqlite.specs.Order.{Row}
use Rattle.sqlite.specs.State.{HasCleanDisk, IsUnchanged, Survives}
use Rattle.sqlite.specs.Held.{state}
use Rattle.sqlite.specs.Given.{HasGiven}
use Rattle.ranges_core.specs.Reads.{is_taken_row, takings_text}
use Rattle.ranges_core.specs.Runs.{LeavesRuns}
use Rattle.ranges_core.proofs.pass.are_runs.Given as goal

abbrev pub invariant-rows : goal.invariant-rows
invariant-rows g l =
    let old = state g.S.Store l.fn.conn in
    let now = state g.S.Store l.rows.conn.now in
    (l.end ≤ 4294967296) × (l.rows.conn.ghost_name ≡ l.initial.rows.conn.ghost_name) × Survives old now (λ _. ⊥) × (l.fn.conn.in_transaction ≡ false → l.rows.conn.now.in_transaction ≡ false)
    × (given : List Row) × (list_all is_taken_row given ≡ true) × LeavesRuns l.fn.marks given l.end l.left × (HasCleanDisk now → HasGiven g.S.Store takings_text [] l.rows.conn.now given × IsUnchanged old now)
