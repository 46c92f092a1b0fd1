use Rattle.std.proofs.Common.{[]}
use Rattle.sqlite.specs.Held.{state}
use Rattle.sqlite.proofs.StateLemmas.{survives_weaker}
use Rattle.sqlite.proofs.Callers.{never_commits}
use Rattle.ranges_core.specs.Reads.{marks_text}
use Rattle.ranges_core.proofs.Asks.{if_ok, on_ok, shown_same, query_untouched}
use Rattle.ranges_core.proofs.Picks.{reads_marks, plain_marks}
use Rattle.ranges_core.proofs.pass.read_marks.Goals as goal

pub returns-clause-was_open : goal.returns-clause-was_open
returns-clause-was_open g c clean up =
    let old = state g.S.Store c.args.conn.now in
    (query_untouched old (state g.S.Store c.query_all.new.self) marks_text [] (plain_marks old.now.schema c.requires) (λ rows. rows.items) c.query_all.result (c.query_all.ensures.ok clean) (c.query_all.ensures.err clean) up).0

pub returns-clause-shown : goal.returns-clause-shown
returns-clause-shown g c clean =
    let old = state g.S.Store c.args.conn.now in
    on_ok c.query_all.result _ _ (λ rows h. (shown_same old (state g.S.Store c.query_all.new.self) marks_text [] rows.items (plain_marks old.now.schema c.requires) h).0) (c.query_all.ensures.ok clean)

pub returns-clause-read : goal.returns-clause-read
returns-clause-read g c clean =
    if_ok c.query_all.result _ _ (λ rows h. reads_marks (state g.S.Store c.args.conn.now) (state g.S.Store c.query_all.new.self) rows.items c.requires h) (c.query_all.ensures.ok clean)

pub returns-clause-same : goal.returns-clause-same
returns-clause-same g c clean up settled =
    let old = state g.S.Store c.args.conn.now in
    (query_untouched old (state g.S.Store c.query_all.new.self) marks_text [] (plain_marks old.now.schema c.requires) (λ rows. rows.items) c.query_all.result (c.query_all.ensures.ok clean) (c.query_all.ensures.err clean) up).1 settled

pub returns-clause-crash : goal.returns-clause-crash
returns-clause-crash g c =
    let old = state g.S.Store c.args.conn.now in
    survives_weaker old (state g.S.Store c.query_all.new.self) _ (λ _. ⊥) (λ clean db h. never_commits marks_text [] old db (plain_marks old.now.schema c.requires) h) c.query_all.ensures.survives
