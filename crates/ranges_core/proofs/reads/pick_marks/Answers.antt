use Rattle.sqlite.specs.Held.{state}
use Rattle.ranges_core.proofs.Asks.{if_ok, on_ok, shown_open, shown_mode, query_kept}
use Rattle.ranges_core.proofs.Picks.{reads_marks, marks_in}
use Rattle.ranges_core.proofs.reads.pick_marks.Goals as goal

pub returns-clause-open : goal.returns-clause-open
returns-clause-open g c clean =
    on_ok c.query_all.result _ _ (λ rows h. shown_open (state g.S.Store c.args.tx.now.conn.now) (state g.S.Store c.query_all.new.self.conn.now) _ _ rows.items h) (c.query_all.ensures.ok clean)

pub returns-clause-shown : goal.returns-clause-shown
returns-clause-shown g c clean inside has =
    on_ok c.query_all.result _ _ (λ rows h. marks_in (state g.S.Store c.args.tx.now.conn.now) (state g.S.Store c.query_all.new.self.conn.now) rows.items has inside h) (c.query_all.ensures.ok clean)

pub returns-clause-read : goal.returns-clause-read
returns-clause-read g c clean has =
    if_ok c.query_all.result _ _ (λ rows h. reads_marks (state g.S.Store c.args.tx.now.conn.now) (state g.S.Store c.query_all.new.self.conn.now) rows.items has h) (c.query_all.ensures.ok clean)

pub returns-clause-kept : goal.returns-clause-kept
returns-clause-kept g c clean inside =
    query_kept (state g.S.Store c.args.tx.now.conn.now) (state g.S.Store c.query_all.new.self.conn.now) _ _ (λ rows. rows.items) c.query_all.result inside (c.query_all.ensures.ok clean) (c.query_all.ensures.err clean)

pub returns-clause-inside : goal.returns-clause-inside
returns-clause-inside g c clean inside =
    on_ok c.query_all.result _ _ (λ rows h. shown_mode (state g.S.Store c.args.tx.now.conn.now) (state g.S.Store c.query_all.new.self.conn.now) _ _ inside rows.items h) (c.query_all.ensures.ok clean)
