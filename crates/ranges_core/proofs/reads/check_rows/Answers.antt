use Rattle.std.proofs.Common.{◌∙◌, sym, subst, arith}
use Rattle.sqlite.specs.State.{HasCleanDisk}
use Rattle.sqlite.specs.Effect.{Database}
use Rattle.sqlite.specs.Held.{state}
use Rattle.ranges_core.specs.Tables.{IsLedger}
use Rattle.ranges_core.specs.Reservations.{HoldLists}
use Rattle.ranges_core.proofs.reads.check_rows.Goals as goal

pub check_held_rows-requires-clause-still : goal.check_held_rows-requires-clause-still
check_held_rows-requires-clause-still g c clean up =
    let settled = c.requires.still (c.hold_in_one_pass.ensures.was_open clean up) in
    let same = c.hold_in_one_pass.ensures.same clean up settled in
    same.0 ∙ settled ∙ sym same.1

pub returns-clause-bad : goal.returns-clause-bad
returns-clause-bad g c clean has is lists hold =
    let mid = state g.S.Store c.hold_in_one_pass.new.conn in
    let at_mid : HasCleanDisk mid = omega (arith, c.check_held_rows.ensures.crash.clean) in
    let up = c.check_held_rows.ensures.was_bad clean is in
    let settled = c.requires.still (c.hold_in_one_pass.ensures.was_open at_mid up) in
    let same = (c.hold_in_one_pass.ensures.same at_mid up settled).0 in
    c.check_held_rows.ensures.bad clean (subst (λ (d : Database). IsLedger d.schema) (sym same) has) is lists (subst (λ (d : Database). HoldLists (d.trees 0) (d.trees 2) lists) (sym same) hold)
