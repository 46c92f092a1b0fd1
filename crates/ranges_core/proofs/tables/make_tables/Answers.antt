use Rattle.std.proofs.Common.{◌≡◌, IsTrue, sym, subst, arith, rules}
use Rattle.sqlite.specs.State.{HasCleanDisk}
use Rattle.sqlite.specs.Held.{state}
use Rattle.ranges_core.specs.Writes.{IsEmptyLedger}
use Rattle.ranges_core.proofs.tables.make_tables.Goals as goal

pub returns-clause-made : goal.returns-clause-made
returns-clause-made g c clean =
    let start = c.transaction-tx.result.conn.now in
    let mid = c.make_mark.new.tx.conn.now in
    let last = c.make_taken.new.tx.conn.now in
    let begun = c.transaction-tx.ensures.begun in
    let end = c.commit.new.self.0 in
    let same : end ≡ c.conn-2-1.given.0 = search rules in
    let at_end : HasCleanDisk (state g.S.Store end) = search rules in
    let at_last : HasCleanDisk (state g.S.Store last) = omega (arith, c.commit.ensures.survives.clean) in
    let at_mid : HasCleanDisk (state g.S.Store mid) = omega (arith, c.make_taken.ensures.survives.clean) in
    let at_start : HasCleanDisk (state g.S.Store start) = omega (arith, c.make_mark.ensures.survives.clean) in
    let inside : IsTrue (state g.S.Store start).in_transaction = rw begun in
    let one = c.in_ok-make_mark.ensures.shown at_mid inside in
    let blank = c.requires.blank (rw begun at at_start) (rw begun at one.was_open) in
    let first = c.in_ok-make_mark.ensures.made at_mid inside (rw begun blank.schema) in
    let it : IsEmptyLedger (state g.S.Store last).now = c.in_ok-make_taken.ensures.made at_last one.mode first.0 first.1 in
    (rw begun at one.was_open, subst (λ h. IsEmptyLedger (state g.S.Store h).now) same (subst IsEmptyLedger (sym (c.in_ok-commit.ensures.ok at_end).1.now_is) it))
