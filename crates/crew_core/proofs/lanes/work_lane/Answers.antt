use Rattle.std.proofs.Common.{◌<◌, [], ◌∷◌, ap, sym, ◌∙◌, subst}
use Rattle.std.proofs.lemmas.List.{map-append}
use Rattle.claim_core.specs.Claims.{ClaimantView, times, with_number}
use Rattle.crew_core.specs.declared.places.Done.{Done}
use Rattle.crew_core.specs.Lanes.{claimant_of}
use Rattle.crew_core.specs.Places.{done_of}
use Rattle.crew_core.proofs.StepLemmas.{worked_next}
use Rattle.crew_core.proofs.lanes.work_lane.Goals as goal

pub loop-job-preserved : goal.loop-job-preserved
loop-job-preserved g c =
    let was = c.loop-job.invariant in
    let batch = c.args.batch.now in
    let done = c.loop-job.places.done in
    let job = c.in-Some.job in
    let o = c.seal_job-outcome.result in
    let drawn = was.drawn in
    let grown = ap (λ p. p.done) c.put.ensures in
    record {
      worked = rw grown (worked_next batch c.args.lane job c.args.seat.now c.loop-job.seat c.seal_job-outcome.new.seat
          done o was.worked c.seal_job-outcome.ensures
          (λ x has. c.in-Some.ensures.ascends x (subst (λ (v : ClaimantView). 0 < times x v.drawn) (sym drawn) has)));
      drawn = rw grown (c.in-Some.ensures.some ∙ ap (λ v. with_number v job) drawn
          ∙ ap (λ js. claimant_of batch.claims 1 js 0)
          (sym (map-append (λ (d : Done). d.job) done (done_of job o ∷ []))));
      room = rw (ap (λ p. p.room) c.put.ensures) was.room;
    }
