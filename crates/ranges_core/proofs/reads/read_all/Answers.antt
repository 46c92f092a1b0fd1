use Rattle.std.proofs.Common.{◌≡◌, IsTrue, map, sym, subst, IsPermutation, arith, rules}
use Rattle.sqlite.specs.State.{HasCleanDisk, Survives}
use Rattle.sqlite.specs.Tree.{Trees}
use Rattle.sqlite.proofs.StateLemmas.{survives_then}
use Rattle.sqlite.proofs.Callers.{survives_begin}
use Rattle.sqlite.specs.Held.{state}
use Rattle.sqlite.specs.Effect.{Database}
use Rattle.ranges_core.specs.Reads.{shown_taken}
use Rattle.ranges_core.specs.Tables.{IsLedger}
use Rattle.ranges_core.proofs.reads.read_all.Goals as goal

pub returns-clause-read : goal.returns-clause-read
returns-clause-read g c clean has =
    let begun = c.transaction-tx.ensures.begun in
    let start = c.transaction-tx.result.conn.now in
    let first = c.pick_marks.new.tx.conn.now in
    let second = c.pick_takings.new.tx.conn.now in
    let at_end : HasCleanDisk (state g.S.Store c.rollback.new.self.0) = search rules in
    let at_second : HasCleanDisk (state g.S.Store second) = omega (arith, c.rollback.ensures.survives.clean) in
    let at_first : HasCleanDisk (state g.S.Store first) = omega (arith, c.pick_takings.ensures.survives.clean) in
    let inside : IsTrue (state g.S.Store start).in_transaction = rw begun in
    let at_start : IsLedger (state g.S.Store start).now.schema = rw begun has in
    let one = c.in_ok-marks.ensures.shown at_first inside at_start in
    let has_first = subst (λ (d : Database). IsLedger d.schema) (sym one.now_is) at_start in (
      rw begun at (c.in_ok-marks.ensures.read at_first at_start),
      rw begun at (subst (λ (d : Database). IsPermutation (map shown_taken (d.trees 2)) c.in_ok-taken.taken.items) one.now_is (c.in_ok-taken.ensures.read at_second has_first)),
    )

pub returns-clause-crash : goal.returns-clause-crash
returns-clause-crash g c =
    let begun = c.transaction-tx.ensures.begun in
    let start = c.transaction-tx.result.conn.now in
    let first = c.pick_marks.new.tx.conn.now in
    let second = c.pick_takings.new.tx.conn.now in
    let end = c.rollback.new.self.0 in
    let same : end ≡ c.conn-2-1.given.0 = search rules in
    let none : Trees → Type 0 = λ _. ⊥ in
    subst (λ h. Survives (state g.S.Store c.args.conn.now) (state g.S.Store h) none) same
    (survives_begin g.S.Store c.args.conn.now (state g.S.Store end) none (rw begun at
    (survives_then (state g.S.Store start) (state g.S.Store first) (state g.S.Store end) none none none (λ _ _ h. h) (λ _ _ h. h) c.pick_marks.ensures.survives
    (survives_then (state g.S.Store first) (state g.S.Store second) (state g.S.Store end) none none none (λ _ _ h. h) (λ _ _ h. h) c.pick_takings.ensures.survives c.rollback.ensures.survives))))
