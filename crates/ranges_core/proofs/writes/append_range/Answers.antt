use Rattle.std.proofs.Common.{arith}
use Rattle.sqlite.specs.State.{HasCleanDisk}
use Rattle.sqlite.specs.Held.{state}
use Rattle.sqlite.proofs.StateLemmas.{survives_weaker}
use Rattle.ranges_core.proofs.Ready.{ready_after, appended, appends_lists}
use Rattle.ranges_core.proofs.Lasting.{last_then, reserved_keeps}
use Rattle.ranges_core.proofs.writes.append_range.Goals as goal

pub returns-clause-ready : goal.returns-clause-ready
returns-clause-ready g c clean up =
    let at_old : HasCleanDisk (state g.S.Store c.args.conn.now) = omega (arith, c.append.ensures.crash.clean) in
    let was = c.append.ensures.was_open clean up in
    ready_after (state g.S.Store c.args.conn.now) (state g.S.Store c.append.new.conn) c.args.key.now c.args.device c.args.size c.args.mark c.append.result (c.requires.ready at_old was)
    c.requires.owner c.requires.some c.requires.fits (c.requires.read at_old was) (c.append.ensures.done clean) (c.append.ensures.committed clean) (c.append.ensures.neither clean up)

pub returns-clause-appends : goal.returns-clause-appends
returns-clause-appends g c clean =
    let at_old : HasCleanDisk (state g.S.Store c.args.conn.now) = omega (arith, c.append.ensures.crash.clean) in
    appends_lists (state g.S.Store c.args.conn.now) (state g.S.Store c.append.new.conn) c.args.key.now c.args.device c.args.size c.args.mark c.append.result (c.requires.ready at_old)
    c.requires.owner c.requires.some c.requires.fits (c.requires.read at_old) (c.append.ensures.done clean)

pub returns-clause-crash : goal.returns-clause-crash
returns-clause-crash g c =
    survives_weaker (state g.S.Store c.args.conn.now) (state g.S.Store c.append.new.conn) _ _ (λ clean trees it.
    let at_old : HasCleanDisk (state g.S.Store c.args.conn.now) = omega (arith, c.append.ensures.crash.clean) in (
      it.0,
      λ lists hold. (
        it.1,
        (appended (state g.S.Store c.args.conn.now) it.1 lists c.args.key.now c.args.device c.args.size c.args.mark (c.requires.ready at_old it.0)
            c.requires.owner c.requires.some c.requires.fits (c.requires.read at_old it.0) hold it.2).holds,
        it.3,
      ),
    )) c.append.ensures.crash

pub returns-clause-kept : goal.returns-clause-kept
returns-clause-kept g c clean before last =
    let at_old : HasCleanDisk (state g.S.Store c.args.conn.now) = omega (arith, c.append.ensures.crash.clean) in
    last_then (state g.S.Store c.args.conn.now) (state g.S.Store c.append.new.conn) _ before c.append.ensures.crash clean (λ trees it.
    reserved_keeps (state g.S.Store c.args.conn.now) before c.args.key.now c.args.device c.args.size (c.requires.ready at_old it.0) (g.met.S.Store.stays c.args.conn.now.store it.0) last trees (λ lists hold. (
      it.1,
      (appended (state g.S.Store c.args.conn.now) it.1 lists c.args.key.now c.args.device c.args.size c.args.mark (c.requires.ready at_old it.0)
          c.requires.owner c.requires.some c.requires.fits (c.requires.read at_old it.0) hold it.2).holds,
      it.3,
    ))) last
