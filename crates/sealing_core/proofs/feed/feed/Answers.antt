use Rattle.std.proofs.Common.{arith, refl, ◌≡◌, ◌-◌, ◌*◌, ◌∙◌, ℕ, Bool, Result, Ok, Err, OnOk, not, ap, sym, subst, length}
use Rattle.crossbeam_queue.specs.Passes.{view}
use Rattle.container_core.proofs.OpeningLemmas.{some_size}
use Rattle.io_core.specs.Streams.{counted}
use Rattle.sealing_core.specs.Order.{MayGoOn, below}
use Rattle.sealing_core.proofs.ChunkLemmas.{begun_now, written_at}
use Rattle.sealing_core.proofs.MayLemmas.{may_behind}
use Rattle.sealing_core.proofs.RoundLemmas.{not_both, put_all_but, rounds_counts, rounds_memory, rounds_read, rounds_write, way_none}
use Rattle.sealing_core.proofs.feed.feed.Goals as goal

pub returns-in_default-clause-sealed : goal.returns-in_default-clause-sealed
returns-in_default-clause-sealed g c =
    let r = c.requires.read.hand.read in
    rounds_memory _ _ _ _ _ _ c.args.context.now.plan.limit (c.args.context.now.plan.group * g.N.Naming.each) _ _ _ _ c.requires.plan.limit.0 (r.bytes, r.consumed, r.bound) refl refl

pub returns-in_default-buffers-clause-sealed : goal.returns-in_default-buffers-clause-sealed
returns-in_default-buffers-clause-sealed g c =
    let r = c.requires.read.hand.read in
    rounds_memory _ _ _ _ _ _ c.args.context.now.plan.limit (c.args.context.now.plan.group * g.N.Naming.each) _ _ _ _ c.requires.plan.limit.0 (r.bytes, r.consumed, r.bound) refl refl

pub run_rounds-requires-clause-way : goal.run_rounds-requires-clause-way
run_rounds-requires-clause-way g c =
    let fresh = c.in-Ok.ensures in
    c.hand_over.ensures.way _ _ c.requires.read.few (λ over. absurd (not_both _ over c.requires.read.within))
    (way_none _ _ _ _ _ c.args.context.now.plan _ _ _ _ fresh.0 fresh.1 c.requires.into.2 c.requires.from.2 c.requires.read.hand)

pub run_rounds-requires-clause-may : goal.run_rounds-requires-clause-may
run_rounds-requires-clause-may g c =
    c.requires.may

pub end-requires-clause-may : goal.end-requires-clause-may
end-requires-clause-may g c = λ ended.
    let t = c.in-Ok-run_rounds.ensures in
    let all = t.all c.if-not-all.false in
    let way = all.0 in
    let none_left = all.3 in
    let but = put_all_but _ _ _ _ _ _ way.put c.run_rounds.new.round way.hand ended (ap (λ ts. length ts) (all.1.1 ended)) in
    let number : c.run_rounds.new.round.intake.blocks - 1 ≡ c.run_rounds.new.early.written = let n = way.order.count in omega arith in
    subst (MayGoOn g.N.Naming.each c.args.context.now.front.now g.N.Naming.key g.N.Naming.header g.N.Naming.told (g.W.Output.bound c.run_rounds.new.writer) (g.W.Output.taken c.run_rounds.new.writer)) (sym number)
    (may_behind _ _ _ _ _ _ _ _ _ _ t.same (c.requires.may) t.written)

pub returns-in-Err-clause-sealed : goal.returns-in-Err-clause-sealed
returns-in-Err-clause-sealed g c =
    let t = c.in-Err.ensures in
    rounds_write _ _ _ _ _ _ _ c.args.context.now.plan.limit (c.args.context.now.plan.group * g.N.Naming.each) _ _ _ _ c.requires.plan.limit.0 t.bound
    t.begun t.unread t.writes

pub returns-then-not-all-clause-sealed : goal.returns-then-not-all-clause-sealed
returns-then-not-all-clause-sealed g c =
    let t = c.in-Ok-run_rounds.ensures in
    rounds_read _ _ _ _ _ _ _ c.args.context.now.plan.limit (c.args.context.now.plan.group * g.N.Naming.each) _ _ _ _ c.requires.plan.limit.0 t.bound
    (begun_now _ _ _ _ _ _ _ _ (some_size g.N.Naming.header) c.requires.plan.fits.0 t.written)
    (t.reads ∙ ap (λ (b : Bool). counted (not b) (g.R.Source.failures c.args.reader.now)) c.if-not-all.true) t.writes

pub returns-clause-sealed : goal.returns-clause-sealed
returns-clause-sealed g c =
    let t = c.in-Ok-run_rounds.ensures in
    let all = t.all c.if-not-all.false in
    let way = all.0 in
    let none_left = all.3 in
    let put : way.put ≡ c.run_rounds.new.early.written = let n = way.order.count in omega arith in
    rounds_counts _ _ _ _ _ _ _ _ _ _ _ _ _ _ _ _ _ refl
    (t.reads ∙ ap (λ (b : Bool). counted (not b) (g.R.Source.failures c.args.reader.now)) c.if-not-all.false) t.writes
    (c.end.ensures.sealed _ _ (g.R.Source.failures c.run_rounds.new.reader) c.args.context.now.plan.limit c.args.context.now.plan.group way.put c.requires.plan.limit.0 way.hand
    all.1 way.rounds (written_at _ _ _ _ _ _ _ _ way.put put t.written))

on_any : {A E : Type 0} (r : Result A E) (P : Type 0) → P → OnOk r P
on_any (Ok x) P p = p
on_any (Err x) P p = tt

pub returns-clause-seen : goal.returns-clause-seen
returns-clause-seen g c =
    let all = c.in-Ok-run_rounds.ensures.all c.if-not-all.false in
    let order = all.0.order in
    let none_left = all.3 in
    let put : all.0.put ≡ c.run_rounds.new.early.written = let n = order.count in omega arith in
    on_any c.end.result _ (
      c.run_rounds.new.early.written,
      subst (λ (n : ℕ). (view c.run_rounds.new.hands.into).put ≡ below n) put order.put,
      order.silent,
      order.seen.behind,
    )
