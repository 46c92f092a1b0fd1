use Rattle.std.proofs.Common.{◌-◌, ◌++◌, sym, subst, arith}
use Rattle.crew_core.specs.Lanes.{AreLanes}
use Rattle.crew_core.proofs.LaneLemmas.{lanes_joined, ended_joined}
use Rattle.crew_core.proofs.lanes.+lanes.Goals as goal

pub work_lanes-returns-clause-lanes : goal.work_lanes-returns-clause-lanes
work_lanes-returns-clause-lanes g t c =
    let seats = c.split_at_mut-seats in
    let places = c.split_at_mut-places in
    let made = c.work_both-theirs in
    let batch = c.args.batch.now in
    let new = made.new.seats ++ made.new.seat in
    subst (λ s. AreLanes batch 0 s new (made.new.places ++ made.new.place)) (sym seats.ensures.value)
    (lanes_joined batch (c.args.upto - 1) seats.result.0.now made.new.seats seats.result.1.now made.new.seat
    made.new.places made.new.place seats.ensures.front_len made.ensures.before made.ensures.at)

pub work_lanes-returns-clause-drawn : goal.work_lanes-returns-clause-drawn
work_lanes-returns-clause-drawn g t c =
    let made = c.work_both-theirs in
    let several = c.if-upto-eq1.false in
    let some = c.requires.upto in
    ended_joined c.args.batch.now.claims (c.args.upto - 1) c.args.upto c.take_in.new.claimant made.new.claimant
    made.result made.new.places made.new.place c.take_in.ensures made.ensures.ours made.ensures.theirs (omega arith)
