use Rattle.std.proofs.Common.{◌≡◌, IsTrue, unwrap_or, sym, subst, arith, rules}
use Rattle.sqlite.specs.State.{HasCleanDisk, Survives}
use Rattle.sqlite.specs.Tree.{Trees}
use Rattle.sqlite.proofs.StateLemmas.{survives_then}
use Rattle.sqlite.proofs.Callers.{survives_begin}
use Rattle.sqlite.specs.Held.{state}
use Rattle.sqlite.specs.Effect.{Database}
use Rattle.ranges_core.specs.Tables.{IsLedger}
use Rattle.ranges_core.specs.Writes.{Appends}
use Rattle.ranges_core.proofs.Moves.{marked_schema}
use Rattle.ranges_core.proofs.writes.append.Goals as goal

pub returns-clause-done : goal.returns-clause-done
returns-clause-done g c clean =
    let old = c.args.conn.now in
    let start = c.transaction-tx.result.conn.now in
    let mid = c.write_mark.new.tx.conn.now in
    let last = c.take_range.new.tx.conn.now in
    let begun = c.transaction-tx.ensures.begun in
    let end = c.commit.new.self.0 in
    let same : end ≡ c.conn-2-1.given.0 = search rules in
    let at_end : HasCleanDisk (state g.S.Store end) = search rules in
    let at_last : HasCleanDisk (state g.S.Store last) = omega (arith, c.commit.ensures.survives.clean) in
    let at_mid : HasCleanDisk (state g.S.Store mid) = omega (arith, c.take_range.ensures.survives.clean) in
    let at_start : HasCleanDisk (state g.S.Store start) = omega (arith, c.write_mark.ensures.survives.clean) in
    let inside : IsTrue (state g.S.Store start).in_transaction = rw begun in
    let one = c.in_ok-write_mark.ensures.shown at_mid inside in
    let two = c.in_ok-take_range.ensures.shown at_last one.mode in
    let at_old = rw begun at at_start in
    let up = rw begun at one.was_open in
    let ready = c.requires.ready at_old up in
    let marked = c.in_ok-write_mark.ensures.marked at_mid inside (rw begun ready.hold.tables) (rw begun ready.hold.rows.of_marks) (rw begun (c.requires.read at_old up)) in
    let schema = marked_schema _ _ _ _ _ _ marked in
    let took = c.in_ok-take_range.ensures.took at_last one.mode (subst IsLedger (sym schema) (rw begun ready.hold.tables)) in
    let it : Appends (state g.S.Store old).now (state g.S.Store last).now c.args.key.now c.args.device (unwrap_or c.args.mark 0) c.args.size =
    record { between = (state g.S.Store mid).now; marked = rw (begun, c.end_of-end.ensures, c.unwrap_or-lo.ensures) at marked; took = rw c.unwrap_or-lo.ensures at took } in (
      up,
      subst (λ h. Appends (state g.S.Store old).now (state g.S.Store h).now c.args.key.now c.args.device (unwrap_or c.args.mark 0) c.args.size) same
          (subst (λ (d : Database). Appends (state g.S.Store old).now d c.args.key.now c.args.device (unwrap_or c.args.mark 0) c.args.size) (sym (c.in_ok-commit.ensures.ok at_end).1.now_is) it),
    )

pub returns-in_err-commit-clause-crash : goal.returns-in_err-commit-clause-crash
returns-in_err-commit-clause-crash g c =
    let old = c.args.conn.now in
    let start = c.transaction-tx.result.conn.now in
    let mid = c.write_mark.new.tx.conn.now in
    let last = c.take_range.new.tx.conn.now in
    let begun = c.transaction-tx.ensures.begun in
    let end = c.commit.new.self.0 in
    let same : end ≡ c.conn-2-1.given.0 = search rules in
    let Crashes : Trees → Type 0 = λ trees. IsTrue (state g.S.Store old).is_open × (db : Database) × Appends (state g.S.Store old).now db c.args.key.now c.args.device (unwrap_or c.args.mark 0) c.args.size × (trees ≡ db.trees) in
    let made : HasCleanDisk (state g.S.Store end) → (db : Trees) → db ≡ (state g.S.Store last).now.trees → Crashes db = λ at_end db is.
    let at_last : HasCleanDisk (state g.S.Store last) = omega (arith, c.commit.ensures.survives.clean) in
    let at_mid : HasCleanDisk (state g.S.Store mid) = omega (arith, c.take_range.ensures.survives.clean) in
    let at_start : HasCleanDisk (state g.S.Store start) = omega (arith, c.write_mark.ensures.survives.clean) in
    let inside : IsTrue (state g.S.Store start).in_transaction = rw begun in
    let one = c.in_ok-write_mark.ensures.shown at_mid inside in
    let at_old = rw begun at at_start in
    let up = rw begun at one.was_open in
    let ready = c.requires.ready at_old up in
    let marked = c.in_ok-write_mark.ensures.marked at_mid inside (rw begun ready.hold.tables) (rw begun ready.hold.rows.of_marks) (rw begun (c.requires.read at_old up)) in
    let schema = marked_schema _ _ _ _ _ _ marked in
    let took = c.in_ok-take_range.ensures.took at_last one.mode (subst IsLedger (sym schema) (rw begun ready.hold.tables)) in
    let it : Appends (state g.S.Store old).now (state g.S.Store last).now c.args.key.now c.args.device (unwrap_or c.args.mark 0) c.args.size =
    record { between = (state g.S.Store mid).now; marked = rw (begun, c.end_of-end.ensures, c.unwrap_or-lo.ensures) at marked; took = rw c.unwrap_or-lo.ensures at took } in
    (up, (state g.S.Store last).now, it, is) in
    subst (λ h. Survives (state g.S.Store old) (state g.S.Store h) Crashes) same
    (survives_begin g.S.Store old (state g.S.Store end) Crashes (rw begun at
    (survives_then (state g.S.Store start) (state g.S.Store mid) (state g.S.Store end) (λ _. ⊥) Crashes Crashes (λ _ db none. absurd none) (λ _ db h. h) c.write_mark.ensures.survives
    (survives_then (state g.S.Store mid) (state g.S.Store last) (state g.S.Store end) (λ _. ⊥) (λ db. db ≡ (state g.S.Store last).now.trees) Crashes (λ _ db none. absurd none) made c.take_range.ensures.survives c.commit.ensures.survives))))
