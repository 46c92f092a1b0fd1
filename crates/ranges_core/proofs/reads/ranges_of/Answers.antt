use Rattle.std.proofs.Common.{arith}
use Rattle.sqlite.specs.State.{HasCleanDisk}
use Rattle.sqlite.specs.Held.{state}
use Rattle.ranges_core.specs.Reservations.{ranges_of_pairs}
use Rattle.ranges_core.proofs.Asks.{both_ok}
use Rattle.ranges_core.proofs.Runs.{ranges_read}
use Rattle.ranges_core.proofs.Shown.{are_range_rows}
use Rattle.ranges_core.proofs.reads.ranges_of.Goals as goal

pub returns-in-Ok-clause-lists : goal.returns-in-Ok-clause-lists
returns-in-Ok-clause-lists g c clean lists hold =
    let db = (state g.S.Store c.args.conn.now).now in
    both_ok c.ranges_in.result _ _ _ (λ ranges is adjacent.
    ranges_read (db.trees 0) (db.trees 2) c.in-Ok.rows.items lists c.args.key.now c.args.device (ranges_of_pairs ranges.items) hold.rows (c.in-Ok.ensures.picked clean lists hold) is adjacent)
    c.ranges_in.ensures.ranges c.ranges_in.ensures.adjacent

pub returns-in-Ok-clause-sound : goal.returns-in-Ok-clause-sound
returns-in-Ok-clause-sound g c clean =
    let at_old : HasCleanDisk (state g.S.Store c.args.conn.now) = omega (arith, c.range_rows.ensures.crash.clean) in
    let ready = c.requires.ready at_old (c.in-Ok.ensures.open clean) in
    let db = (state g.S.Store c.args.conn.now).now in
    c.ranges_in.ensures.sound (are_range_rows (db.trees 0) (db.trees 2) c.in-Ok.rows.items ready.lists c.args.key.now c.args.device ready.hold.rows (c.in-Ok.ensures.picked clean ready.lists ready.hold))
