use Rattle.std.proofs.Common.{rules, sym, subst, arith}
use Rattle.sqlite.specs.State.{HasCleanDisk}
use Rattle.sqlite.specs.Held.{state}
use Rattle.sqlite.specs.Effect.{Database}
use Rattle.sqlite.proofs.StateLemmas.{survives_then}
use Rattle.ranges_core.specs.Reservations.{Holds}
use Rattle.ranges_core.proofs.Lasting.{last_still}
use Rattle.reserve_core.proofs.keeper.Keeper.reserve_from.Goals as goal

pub returns-clause-crash : goal.returns-clause-crash
returns-clause-crash g c =
    rw (← c.self.view_is)
    (survives_then (state g.S.Store c.self.inside.conn) (state g.S.Store c.mark_of.new.conn) (state g.S.Store c.append_range.new.conn) (λ _. ⊥) _ _ (λ _ db none. absurd none) (λ clean trees it lists hold.
    let at_mid : HasCleanDisk (state g.S.Store c.mark_of.new.conn) = omega (arith, c.append_range.ensures.crash.clean) in
    rw (c.as_slice-2.ensures, c.number-number.ensures.value) at (it.1 lists (subst (λ (d : Database). Holds d lists) (sym (c.mark_of.ensures.same at_mid it.0).0) hold))) c.mark_of.ensures.crash c.append_range.ensures.crash)

pub returns-clause-kept : goal.returns-clause-kept
returns-clause-kept g c =
    rw (← c.self.view_is) (λ clean before last.
    let at_mid : HasCleanDisk (state g.S.Store c.mark_of.new.conn) = omega (arith, c.append_range.ensures.crash.clean) in
    c.append_range.ensures.kept clean before (last_still (state g.S.Store c.self.inside.conn) (state g.S.Store c.mark_of.new.conn) before c.mark_of.ensures.crash at_mid last))

pub returns-clause-shut : goal.returns-clause-shut
returns-clause-shut g c =
    rw (← c.self.view_is) (λ shut.
    survives_then (state g.S.Store c.self.inside.conn) (state g.S.Store c.mark_of.new.conn) (state g.S.Store c.append_range.new.conn) (λ _. ⊥) _ (λ _. ⊥) (λ _ db none. none) (λ clean trees it.
    let at_mid : HasCleanDisk (state g.S.Store c.mark_of.new.conn) = omega (arith, c.append_range.ensures.crash.clean) in
    absurd (let was = rw shut at (c.mark_of.ensures.was_open at_mid it.0) in cc)) c.mark_of.ensures.crash c.append_range.ensures.crash)

pub returns-clause-appends : goal.returns-clause-appends
returns-clause-appends g c = search rules

pub returns-clause-floor : goal.returns-clause-floor
returns-clause-floor g c = search rules

pub returns-clause-live : goal.returns-clause-live
returns-clause-live g c = search rules
