use Rattle.sqlite.specs.Held.{state}
use Rattle.ranges_core.proofs.Asks.{if_ok, on_ok, shown_open, query_kept}
use Rattle.ranges_core.proofs.Picks.{picks_next}
use Rattle.ranges_core.proofs.reads.pick.Goals as goal

pub returns-clause-picked : goal.returns-clause-picked
returns-clause-picked g c clean lists hold =
    if_ok c.query_all.result _ _ (λ rows h. picks_next (state g.S.Store c.args.tx.now.conn.now) (state g.S.Store c.query_all.new.self.conn.now) c.args.key.now c.args.device rows.items hold.tables hold.rows.of_marks h)
    (rw (c.params-to_sql.ensures, c.params-to_sql-2.ensures) at (c.query_all.ensures.ok clean))

pub returns-clause-open : goal.returns-clause-open
returns-clause-open g c clean =
    on_ok c.query_all.result _ _ (λ rows h. shown_open (state g.S.Store c.args.tx.now.conn.now) (state g.S.Store c.query_all.new.self.conn.now) _ _ rows.items h) (c.query_all.ensures.ok clean)

pub returns-clause-kept : goal.returns-clause-kept
returns-clause-kept g c clean inside =
    query_kept (state g.S.Store c.args.tx.now.conn.now) (state g.S.Store c.query_all.new.self.conn.now) _ _ (λ rows. rows.items) c.query_all.result inside (c.query_all.ensures.ok clean) (c.query_all.ensures.err clean)
