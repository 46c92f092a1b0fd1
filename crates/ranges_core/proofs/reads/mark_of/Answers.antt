use Rattle.std.proofs.Common.{arith}
use Rattle.sqlite.specs.State.{HasCleanDisk}
use Rattle.sqlite.specs.Held.{state}
use Rattle.ranges_core.proofs.Picks.{reads_mark, is_read, is_no_fault}
use Rattle.ranges_core.proofs.reads.mark_of.Goals as goal

pub returns-in-Ok-clause-read : goal.returns-in-Ok-clause-read
returns-in-Ok-clause-read g c clean =
    let at_old : HasCleanDisk (state g.S.Store c.args.conn.now) = omega (arith, c.next_rows.ensures.crash.clean) in
    let ready = c.requires.ready at_old (c.in-Ok.ensures.open clean) in
    is_read _ c.mark_in.result (reads_mark _ _ ready.lists c.args.key.now c.args.device c.in-Ok.rows.items c.mark_in.result ready.hold.rows (c.in-Ok.ensures.picked clean ready.lists ready.hold)
    (λ none. c.mark_in.ensures.none (rw (c.as_slice.ensures.value, none))) (λ n low one. c.mark_in.ensures.one n low (rw (c.as_slice.ensures.value, one))))

pub returns-in-Ok-clause-sound : goal.returns-in-Ok-clause-sound
returns-in-Ok-clause-sound g c clean =
    let at_old : HasCleanDisk (state g.S.Store c.args.conn.now) = omega (arith, c.next_rows.ensures.crash.clean) in
    let ready = c.requires.ready at_old (c.in-Ok.ensures.open clean) in
    is_no_fault _ c.mark_in.result (reads_mark _ _ ready.lists c.args.key.now c.args.device c.in-Ok.rows.items c.mark_in.result ready.hold.rows (c.in-Ok.ensures.picked clean ready.lists ready.hold)
    (λ none. c.mark_in.ensures.none (rw (c.as_slice.ensures.value, none))) (λ n low one. c.mark_in.ensures.one n low (rw (c.as_slice.ensures.value, one))))
