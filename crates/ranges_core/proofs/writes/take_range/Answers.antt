use Rattle.std.proofs.Common.{pos, w64, arith}
use Rattle.std.proofs.lemmas.Int.{to_z-of_z}
use Rattle.sqlite.specs.Held.{state}
use Rattle.ranges_core.proofs.Effects.{takes_inside}
use Rattle.ranges_core.proofs.writes.take_range.Goals as goal

pub returns-clause-took : goal.returns-clause-took
returns-clause-took g c clean inside has =
    takes_inside (state g.S.Store c.args.tx.now.conn.now) (state g.S.Store c.execute.new.self.conn.now) c.args.key.now c.args.device c.args.lo c.args.size c.execute.result has
    (rw (c.params-to_sql.ensures, c.params-to_sql-2.ensures, c.params-to_sql-3.ensures, c.params-to_sql-4.ensures, c.signed-lo.ensures, to_z-of_z w64 (pos c.args.lo) (record { sfits = omega (arith, c.requires) })) at (c.execute.ensures.runs clean inside))
