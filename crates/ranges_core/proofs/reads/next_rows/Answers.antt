use Rattle.std.proofs.Common.{arith, rules}
use Rattle.sqlite.specs.State.{HasCleanDisk}
use Rattle.sqlite.specs.Held.{state}
use Rattle.ranges_core.proofs.reads.next_rows.Goals as goal

pub returns-clause-picked : goal.returns-clause-picked
returns-clause-picked g c clean lists hold =
    let at_end : HasCleanDisk (state g.S.Store c.rollback.new.self.0) = search rules in
    let at_read : HasCleanDisk (state g.S.Store c.pick.new.tx.conn.now) = omega (arith, c.rollback.ensures.survives.clean) in
    rw c.transaction-tx.ensures.begun at (c.in_ok-rows.ensures.picked at_read lists (rw c.transaction-tx.ensures.begun hold))
