use Rattle.std.proofs.Common.{pos, w64, arith}
use Rattle.std.proofs.lemmas.Int.{to_z-of_z}
use Rattle.sqlite.specs.Held.{state}
use Rattle.ranges_core.proofs.Effects.{enters_inside}
use Rattle.ranges_core.proofs.writes.enter_mark.Goals as goal

pub returns-clause-entered : goal.returns-clause-entered
returns-clause-entered g c clean inside has =
    enters_inside (state g.S.Store c.args.tx.now.conn.now) (state g.S.Store c.execute.new.self.conn.now) c.args.key.now c.args.device c.args.next c.execute.result has
    (rw (c.params-to_sql.ensures, c.params-to_sql-2.ensures, c.params-to_sql-3.ensures, c.signed-next.ensures, to_z-of_z w64 (pos c.args.next) (record { sfits = omega (arith, c.requires) })) at (c.execute.ensures.runs clean inside))
