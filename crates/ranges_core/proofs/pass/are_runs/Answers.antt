use Rattle.std.proofs.Common.{[], ◌∷◌, ◌++◌, ◌∙◌, refl, rules, arith}
use Rattle.sqlite.specs.State.{HasCleanDisk}
use Rattle.sqlite.specs.Tree.{Trees}
use Rattle.sqlite.specs.Held.{state}
use Rattle.sqlite.proofs.StateLemmas.{survives_then, survives_weaker}
use Rattle.sqlite.proofs.Callers.{begun_plain, never_commits, unchanged_then}
use Rattle.ranges_core.specs.Reads.{is_taken_row, takings_text}
use Rattle.ranges_core.proofs.Asks.{query_fails_untouched}
use Rattle.ranges_core.proofs.Passes.{all_more, leaves_first, leaves_next, leaves_none}
use Rattle.ranges_core.proofs.Picks.{plain_takings, takings_since}
use Rattle.ranges_core.proofs.pass.are_runs.Goals as goal

pub returns-in_err-rows-clause-was_open : goal.returns-in_err-rows-clause-was_open
returns-in_err-rows-clause-was_open g c clean up =
    (query_fails_untouched (state g.S.Store c.args.conn.now) (state g.S.Store c.query.follows.lender-at-none) takings_text [] _ ((rw c.in_err-rows.was at c.query.follows.holds-at-none).err clean) up).0

pub returns-in_err-rows-clause-same : goal.returns-in_err-rows-clause-same
returns-in_err-rows-clause-same g c clean up settled =
    (query_fails_untouched (state g.S.Store c.args.conn.now) (state g.S.Store c.query.follows.lender-at-none) takings_text [] _ ((rw c.in_err-rows.was at c.query.follows.holds-at-none).err clean) up).1 settled

pub returns-in_err-rows-clause-crash : goal.returns-in_err-rows-clause-crash
returns-in_err-rows-clause-crash g c =
    let old = state g.S.Store c.args.conn.now in
    survives_weaker old (state g.S.Store c.query.follows.lender-at-none) _ (λ _. ⊥) (λ clean db h. never_commits takings_text [] old db (plain_takings old.now.schema c.requires) h) (rw c.in_err-rows.was at c.query.follows.holds-at-none).survives

pub rows-init : goal.rows-init
rows-init g c =
    let old = state g.S.Store c.args.conn.now in
    let made = c.in_ok-rows.ensures in
    let plain = plain_takings old.now.schema c.requires in (
      search arith,
      refl,
      survives_weaker old _ _ (λ _. ⊥) (λ clean db h. never_commits takings_text [] old db plain h) made.survives,
      made.mode,
      [],
      refl,
      leaves_first c.args.marks.now,
      λ clean. begun_plain g.S.Store takings_text [] c.args.conn.now _ plain (made.begun clean),
    )

pub returns-in_default-clause-runs : goal.returns-in_default-clause-runs
returns-in_default-clause-runs g c clean are =
    let moved = c.next.follows.holds-at-none in
    let now = c.next.follows.lender-at-none.conn.now in
    let late : HasCleanDisk (state g.S.Store now) = search rules in
    let inv = c.rows.invariant in
    let read = inv.7 (omega (arith, moved.survives.clean)) in
    let shown = (rw (c.in_ok-row.was, c.in_default.is) at (moved.ok late)) takings_text [] inv.4 read.0 in
    let old = state g.S.Store c.args.conn.now in
    (inv.4, takings_since old (state g.S.Store c.rows.rows.conn.now) (state g.S.Store now) inv.4 c.requires read.1 shown, inv.5, leaves_none c.args.marks.now inv.4 c.rows.end c.rows.left.now inv.6 (c.are_complete.ensures are))

pub rows-preserved : goal.rows-preserved
rows-preserved g c =
    let inv = c.rows.invariant in
    let moved = c.next.follows.holds-at-none in
    let first = state g.S.Store c.args.conn.now in
    let old = state g.S.Store c.rows.rows.conn.now in
    let now = state g.S.Store c.next.follows.lender-at-none.conn.now in
    let row = c.in-Some.row.now in
    let none : Trees → Type 0 = λ _. ⊥ in (
      c.in-Some-after_row.ensures.bound,
      moved.same_reference ∙ inv.1,
      survives_then first old now none none none (λ _ _ h. h) (λ _ _ h. h) inv.2 moved.survives,
      λ settled. moved.mode (inv.3 settled),
      inv.4 ++ row ∷ [],
      all_more is_taken_row inv.4 row inv.5 (search rules),
      leaves_next c.args.marks.now inv.4 row c.rows.end c.in-Some-after_row.next c.rows.left.now c.in-Some-after_row.rest.now inv.6 c.in-Some-after_row.ensures.takes,
      λ clean.
          let read = inv.7 (omega (arith, moved.survives.clean)) in
          let more = rw (c.in_ok-row.was, c.in-Some.is) at (moved.ok clean) in
          let same = rw c.in_ok-row.was at (moved.same clean) in
          (more takings_text [] inv.4 read.0, unchanged_then first old now read.1 same),
    )
