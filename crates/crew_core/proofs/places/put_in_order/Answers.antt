use Rattle.std.proofs.Common.{◌≡◌, set, refl, ap, ◌∙◌, subst, arith}
use Rattle.std.proofs.lemmas.List.{get_or_default}
use Rattle.crew_core.specs.Places.{LanePlacesView, no_places}
use Rattle.crew_core.proofs.OrderLemmas.{IsOrdering, in_order, next_lane, ordering_next}
use Rattle.crew_core.proofs.places.put_in_order.Goals as goal

pub lane_with-lane-requires : goal.lane_with-lane-requires
lane_with-lane-requires c =
    next_lane c.args.jobs c.loop-job.job c.args.places.now c.loop-job.places c.loop-job.outcomes.items
    c.loop-job-test.true c.loop-job.invariant.ordering

pub loop-job-preserved : goal.loop-job-preserved
loop-job-preserved c =
    let left = c.loop-job.places in
    let lane = c.lane_with-lane.result in
    let below = c.lane_with-lane.ensures.below in
    let before = c.index-places-lane.result in
    let after = c.take-outcome.new.self in
    let pushed = c.push_reserved.ensures in
    let same = get_or_default left lane no_places before below in
    record {
      ordering = rw pushed.items (ordering_next c.args.jobs c.loop-job.job lane c.args.places.now left
          (set left lane after) c.loop-job.outcomes.items c.take-outcome.result after c.requires.drawn
          c.loop-job.invariant.ordering below refl
          (ap (λ (p : LanePlacesView). p.done) same ∙ c.take-outcome.ensures));
      room = rw pushed.capacity c.loop-job.invariant.room;
    }

pub returns : goal.returns
returns c =
    let end : c.loop-job.job ≡ c.args.jobs = omega (arith, c.loop-job-test.false, c.loop-job.auto.job-end) in
    in_order c.args.jobs c.args.places.now c.loop-job.places c.loop-job.outcomes.items
    (subst (λ n. IsOrdering c.args.jobs n c.args.places.now c.loop-job.places c.loop-job.outcomes.items) end
    c.loop-job.invariant.ordering)
