use Rattle.std.proofs.Common.{pos, w64, arith}
use Rattle.std.proofs.lemmas.Int.{to_z-of_z}
use Rattle.sqlite.specs.Held.{state}
use Rattle.ranges_core.proofs.Moves.{moves_inside}
use Rattle.ranges_core.proofs.writes.move_mark.Goals as goal

pub returns-clause-moved : goal.returns-clause-moved
returns-clause-moved g c clean inside has lawful r one =
    moves_inside (state g.S.Store c.args.tx.now.conn.now) (state g.S.Store c.execute.new.self.conn.now) c.args.key.now c.args.device c.args.next r c.execute.result has lawful one
    (rw (c.params-to_sql.ensures, c.params-to_sql-2.ensures, c.params-to_sql-3.ensures, c.signed-next.ensures, to_z-of_z w64 (pos c.args.next) (record { sfits = omega (arith, c.requires) })) at (c.execute.ensures.runs clean inside))
