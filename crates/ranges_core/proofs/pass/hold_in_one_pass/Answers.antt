use Rattle.std.proofs.Common.{◌≡◌, true, arith, rules}
use Rattle.std.specs.List.{list_all}
use Rattle.sqlite.specs.State.{HasCleanDisk}
use Rattle.sqlite.specs.Held.{state}
use Rattle.ranges_core.specs.Reads.{is_mark_row}
use Rattle.ranges_core.proofs.Passes.{pass_holds, shows_then}
use Rattle.ranges_core.proofs.pass.hold_in_one_pass.Goals as goal

pub returns-in-Ok-true-clause-ok : goal.returns-in-Ok-true-clause-ok
returns-in-Ok-true-clause-ok g c clean _ =
    let first = state g.S.Store c.args.conn.now in
    let mid = state g.S.Store c.read_marks.new.conn in
    let last = state g.S.Store c.are_runs.new.conn in
    let at_mid : HasCleanDisk mid = omega (arith, c.are_runs.ensures.crash.clean) in
    let before = c.in-Ok.ensures.shown at_mid in
    let after = c.in-Ok-true.ensures.shown clean in
    let runs = c.in-Ok-true.ensures.runs clean (search rules) in
    let of_marks : list_all is_mark_row c.as_slice.result.now ≡ true = search rules in (
      shows_then first mid last before after,
      rw c.schema.ensures.value at (c.is_ledger.ensures (search rules)),
      pass_holds first.now mid.now c.in-Ok.marks.items runs.0 before.now_is (c.in-Ok.ensures.read at_mid) runs.1 (rw c.as_slice.ensures.value at of_marks) runs.2
          (rw c.as_slice-else-not-are_mark_rows.ensures.value at (c.are_ordered.ensures (search rules))) (rw c.as_slice-2.ensures.value at runs.3),
    )
