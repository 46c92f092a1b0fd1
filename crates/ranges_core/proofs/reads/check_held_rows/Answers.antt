use Rattle.std.proofs.Common.{◌≡◌, Err, subst, arith, rules}
use Rattle.std.specs.List.{AllByRecursion}
use Rattle.sqlite.specs.State.{HasCleanDisk}
use Rattle.sqlite.specs.Effect.{Database}
use Rattle.sqlite.specs.Held.{state}
use Rattle.ranges_core.specs.declared.fault.ReserveFault.TheVariants.{BadStore}
use Rattle.ranges_core.specs.Reservations.{IsMarkRow}
use Rattle.ranges_core.specs.Writes.{HaveRowids}
use Rattle.ranges_core.proofs.Asks.{on_to}
use Rattle.ranges_core.proofs.Shown.{lists_read, lists_there}
use Rattle.ranges_core.proofs.reads.check_held_rows.Goals as goal

pub returns-in_err-hold_lists-clause-bad : goal.returns-in_err-hold_lists-clause-bad
returns-in_err-hold_lists-clause-bad g c clean has is lists hold =
    let db = (state g.S.Store c.args.conn.now).now in
    let read = c.in-Ok.ensures.read clean has in
    let same : c.hold_lists.result ≡ Err BadStore = search rules in
    c.hold_lists.ensures.bad same lists (rw (c.as_slice.ensures.value, c.as_slice-2.ensures.value) (lists_there (db.trees 0) (db.trees 2) c.in-Ok.all.marks.items c.in-Ok.all.taken.items read.0 read.1 lists hold))

pub returns-clause-ok : goal.returns-clause-ok
returns-clause-ok g c clean has =
    let db = (state g.S.Store c.args.conn.now).now in
    let at_mid : HasCleanDisk (state g.S.Store c.read_all.new.conn) = omega (arith, c.check_rowids.ensures.crash.clean) in
    let read = c.in-Ok.ensures.read at_mid has in
    let held = c.in_ok-hold_lists.ensures.ok in
    let mid = state g.S.Store c.read_all.new.conn in
    let hold = lists_read (db.trees 0) (db.trees 2) c.in-Ok.all.marks.items c.in-Ok.all.taken.items read.0 read.1 held.0 (rw (c.as_slice.ensures.value, c.as_slice-2.ensures.value) at held.1) in
    let up = c.in-Ok.ensures.open at_mid in
    let at_first : HasCleanDisk (state g.S.Store c.args.conn.now) = omega (arith, c.read_all.ensures.crash.clean, c.check_rowids.ensures.crash.clean) in
    on_to c.check_rowids.result _ _ (λ it.
    let same : mid.now ≡ db = (c.in-Ok.ensures.same at_mid it.0.was_open (c.requires.still at_first up)).0 in
    let rowids = subst (λ (d : Database). AllByRecursion IsMarkRow (d.trees 0) → HaveRowids (d.trees 0)) same it.1 in
    (held.0, record { sound = (c.requires.live up).0; tables = has; rows = hold }, rowids hold.of_marks)) (c.check_rowids.ensures.ok clean)
