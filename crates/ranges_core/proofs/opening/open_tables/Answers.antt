use Rattle.std.proofs.Common.{◌≡◌, inr, rules}
use Rattle.sqlite.proofs.StateLemmas.{survives_weaker}
use Rattle.sqlite.specs.Held.{state}
use Rattle.ranges_core.specs.Reservations.{no_lists}
use Rattle.ranges_core.specs.Tables.{IsLedger, no_schema}
use Rattle.ranges_core.proofs.Asks.{on_to}
use Rattle.ranges_core.proofs.Lasting.{blank_keeps, last_still, last_then}
use Rattle.ranges_core.proofs.Opens.{never_ledger}
use Rattle.ranges_core.proofs.Shown.{empty_holds}
use Rattle.ranges_core.proofs.opening.open_tables.Goals as goal

pub returns-in-Ok-clause-ready : goal.returns-in-Ok-clause-ready
returns-in-Ok-clause-ready g c clean up =
    let made = c.in-Ok.ensures.made clean in
    let held = empty_holds _ made.1 in
    record { settled = (c.in-Ok.ensures.committed clean).1; lists = no_lists; hold = held.0; rowids = held.1 }

pub returns-clause-never : goal.returns-clause-never
returns-clause-never g c clean =
    let has : IsLedger (state g.S.Store c.args.conn.now).now.schema = let it : IsLedger c.schema-2.result.now = search rules in rw c.schema-2.ensures.value at it in
    on_to c.check_rows.result _ _ (λ held. never_ledger _ held.0 held.1) (c.check_rows.ensures.ok clean has)

pub returns-clause-bad : goal.returns-clause-bad
returns-clause-bad g c clean is =
    let has : IsLedger (state g.S.Store c.args.conn.now).now.schema = let it : IsLedger c.schema-2.result.now = search rules in rw c.schema-2.ensures.value at it in
    inr (has, λ lists hold. c.check_rows.ensures.bad clean has is lists hold)

pub returns-in-Ok-clause-kept : goal.returns-in-Ok-clause-kept
returns-in-Ok-clause-kept g c clean before last =
    let old = state g.S.Store c.args.conn.now in
    last_then old (state g.S.Store c.make_tables.new.conn) _ before c.make_tables.ensures.crash clean (λ trees it.
    let blank : c.schema.result.now ≡ no_schema = search rules in
    let none : old.now.schema ≡ no_schema = rw c.schema.ensures.value at blank in
    let settled : old.now ≡ old.committed = c.is_autocommit.ensures.settled (search rules) it.0 in
    blank_keeps old before trees none settled (c.schema.ensures.live it.0).1 (g.met.S.Store.stays c.args.conn.now.store it.0) last) last

pub returns-in-Err-clause-kept : goal.returns-in-Err-clause-kept
returns-in-Err-clause-kept g c clean before last =
    let old = state g.S.Store c.args.conn.now in
    last_then old (state g.S.Store c.make_tables.new.conn) _ before c.make_tables.ensures.crash clean (λ trees it.
    let blank : c.schema.result.now ≡ no_schema = search rules in
    let none : old.now.schema ≡ no_schema = rw c.schema.ensures.value at blank in
    let settled : old.now ≡ old.committed = c.is_autocommit.ensures.settled (search rules) it.0 in
    blank_keeps old before trees none settled (c.schema.ensures.live it.0).1 (g.met.S.Store.stays c.args.conn.now.store it.0) last) last

pub returns-clause-kept : goal.returns-clause-kept
returns-clause-kept g c clean before last =
    last_still (state g.S.Store c.args.conn.now) (state g.S.Store c.check_rows.new.conn) before c.check_rows.ensures.crash clean last

pub returns-in-Err-clause-crash : goal.returns-in-Err-clause-crash
returns-in-Err-clause-crash g c =
    survives_weaker (state g.S.Store c.args.conn.now) (state g.S.Store c.make_tables.new.conn) _ _ (λ clean trees it. (it.1, (empty_holds it.1 it.2).0, it.3)) c.make_tables.ensures.crash

pub returns-in-Ok-clause-found : goal.returns-in-Ok-clause-found
returns-in-Ok-clause-found g c other =
    let blank : c.schema.result.now ≡ no_schema = search rules in
    absurd (other (rw c.schema.ensures.value at blank))

pub returns-in-Err-clause-found : goal.returns-in-Err-clause-found
returns-in-Err-clause-found g c other =
    let blank : c.schema.result.now ≡ no_schema = search rules in
    absurd (other (rw c.schema.ensures.value at blank))
