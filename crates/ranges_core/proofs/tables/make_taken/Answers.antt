use Rattle.sqlite.specs.Held.{state}
use Rattle.ranges_core.proofs.Makes.{makes_taken_inside}
use Rattle.ranges_core.proofs.tables.make_taken.Goals as goal

pub returns-clause-made : goal.returns-clause-made
returns-clause-made g c clean inside has none =
    makes_taken_inside (state g.S.Store c.args.tx.now.conn.now) (state g.S.Store c.execute.new.self.conn.now) c.execute.result has none (c.execute.ensures.runs clean inside)
