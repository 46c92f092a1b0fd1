use Rattle.std.proofs.Common.{arith, ◌≡◌, ◌≤◌, [], ◌++◌, length, All, sym, ap, ◌∙◌, subst}
use Rattle.std.specs.Prelude.{slice_get}
use Rattle.std.proofs.lemmas.List.{length-map}
use Rattle.claim_core.specs.Claims.{ClaimantView, times}
use Rattle.crew_core.specs.Batch.{AreOutcomes, AreIssued, GoOn}
use Rattle.crew_core.specs.Places.{AreDrawn, AreInOrder}
use Rattle.crew_core.proofs.BatchLemmas.{ready, drawn, outcomes, among, issued, go_on, past}
use Rattle.crew_core.proofs.batch.seal_batch.Goals as goal

pub work_lanes-requires-clause-ready : goal.work_lanes-requires-clause-ready
work_lanes-requires-clause-ready g c = λ lifetimes outlive.
    let is = c.in_ok-batch.ensures in
    let used = c.split_at_mut-used in
    let places = c.as_mut_slice-places in
    let made = c.in_ok-all.ensures in
    let room = length c.args.jobs.now in
    let jobs = ap length is.jobs ∙ length-map c.args.jobs.now (λ job. job.items) in
    let free = subst (λ l. All (λ p. (p.done ≡ []) × (room ≤ p.room)) l) (sym places.ensures.value) made.1 in
    ready c.in_ok-batch.batch c.max-lanes.result room c.args.ledger.now.ledger c.args.seats.now used.result.0.now
    used.result.1.now places.result.now used.ensures.value used.ensures.front_len (places.ensures.len ∙ made.0) is.ledger
    c.requires.ours (omega (arith, jobs)) free

pub put_in_order-requires-clause-drawn : goal.put_in_order-requires-clause-drawn
put_in_order-requires-clause-drawn g c =
    let used = c.split_at_mut-used in
    let made = c.work_lanes in
    let jobs = ap length c.in_ok-batch.ensures.jobs ∙ length-map c.args.jobs.now (λ job. job.items) in
    subst (λ n. AreDrawn n made.new.places) jobs
    (drawn c.in_ok-batch.batch c.max-lanes.result used.result.0.now made.new.seats made.new.places made.ensures.lanes
    used.ensures.front_len
    (λ x. sym (ap (λ (v : ClaimantView). times x v.drawn) made.ensures.drawn) ∙ c.close.ensures x))

pub returns-clause-outcomes : goal.returns-clause-outcomes
returns-clause-outcomes g c =
    let batch = c.in_ok-batch.batch in
    let is = c.in_ok-batch.ensures in
    let used = c.split_at_mut-used in
    let made = c.work_lanes in
    let out = c.put_in_order.new.outcomes.items in
    let jobs = ap length is.jobs ∙ length-map c.args.jobs.now (λ job. job.items) in
    let ordered = subst (λ n. AreInOrder n made.new.places out) (sym jobs) c.put_in_order.ensures in
    let done = outcomes batch c.max-lanes.result used.result.0.now made.new.seats made.new.places made.ensures.lanes
    used.ensures.front_len out ordered in
    subst (λ l. AreOutcomes c.args.key.now c.args.shape.now l out) is.jobs
    (subst (λ s. AreOutcomes c.args.key.now s batch.jobs out) is.shape (subst (λ k. AreOutcomes k batch.shape batch.jobs out) is.key done))

pub returns-clause-issued : goal.returns-clause-issued
returns-clause-issued g c =
    let batch = c.in_ok-batch.batch in
    let used = c.split_at_mut-used in
    let made = c.work_lanes in
    let out = c.put_in_order.new.outcomes.items in
    let jobs = ap length c.in_ok-batch.ensures.jobs ∙ length-map c.args.jobs.now (λ job. job.items) in
    let ordered = subst (λ n. AreInOrder n made.new.places out) (sym jobs) c.put_in_order.ensures in
    subst (λ s. AreIssued s (made.new.seats ++ used.result.1.now) out) (sym used.ensures.value)
    (issued batch c.max-lanes.result used.result.0.now made.new.seats made.new.places made.ensures.lanes
    used.ensures.front_len out ordered used.result.1.now)

pub returns-clause-at_seats : goal.returns-clause-at_seats
returns-clause-at_seats g c =
    let batch = c.in_ok-batch.batch in
    let used = c.split_at_mut-used in
    let made = c.work_lanes in
    let out = c.put_in_order.new.outcomes.items in
    let jobs = ap length c.in_ok-batch.ensures.jobs ∙ length-map c.args.jobs.now (λ job. job.items) in
    let ordered = subst (λ n. AreInOrder n made.new.places out) (sym jobs) c.put_in_order.ensures in
    let fewer = among batch c.max-lanes.result used.result.0.now made.new.seats made.new.places made.ensures.lanes
    used.ensures.front_len out ordered used.result.1.now in
    λ n o at. (omega (arith, (fewer n o at).0, c.requires.lanes.0, c.min.ensures, c.max-lanes.ensures), (fewer n o at).1)

pub returns-clause-seen : goal.returns-clause-seen
returns-clause-seen g c =
    let used = c.split_at_mut-used in
    let made = c.work_lanes in
    subst (λ s. GoOn s (made.new.seats ++ used.result.1.now)) (sym used.ensures.value)
    (go_on c.in_ok-batch.batch c.max-lanes.result used.result.0.now made.new.seats made.new.places made.ensures.lanes
    used.ensures.front_len used.result.1.now)

pub returns-clause-past_lanes : goal.returns-clause-past_lanes
returns-clause-past_lanes g c i behind =
    let used = c.split_at_mut-used in
    let made = c.work_lanes in
    past c.in_ok-batch.batch c.max-lanes.result used.result.0.now made.new.seats made.new.places made.ensures.lanes
    used.ensures.front_len used.result.1.now i
    (omega (arith, behind, c.requires.lanes.0, c.min.ensures, c.max-lanes.ensures))
    ∙ ap (λ s. slice_get s i) (sym used.ensures.value)
