use Rattle.std.proofs.Common.{◌<◌, ◌≤◌, [], length, get_or, sym, ap, ◌∙◌, subst}
use Rattle.std.specs.Prelude.{map}
use Rattle.std.proofs.lemmas.List.{get_or-map, length-map}
use Rattle.crew_core.specs.Lanes.{IsLaneStep}
use Rattle.crew_core.proofs.lanes.Batch.seal_job.Goals as goal

pub sealed_job-requires-clause-short : goal.sealed_job-requires-clause-short
sealed_job-requires-clause-short c =
    let jobs = c.self.inside.jobs.now in
    let n = c.args.job in
    let job = c.index-self-job.result in
    let low : n < length (map (λ j. j.items) jobs) = subst (λ js. n < length js) (sym (ap (λ b. b.jobs) c.self.view_is)) c.requires.job in
    let inside : n < length jobs = rw (length-map jobs (λ j. j.items)) at low in
    let same = get_or-map (λ j. j.items) jobs n job job.items inside ∙ sym c.as_slice.ensures.value in
    subst (λ l. length l ≤ 1099511627776) same (c.self.invariant.short n job.items low)

pub returns : goal.returns
returns c =
    let jobs = c.self.inside.jobs.now in
    let n = c.args.job in
    let job = c.index-self-job.result in
    let low : n < length (map (λ j. j.items) jobs) = subst (λ js. n < length js) (sym (ap (λ b. b.jobs) c.self.view_is)) c.requires.job in
    let inside : n < length jobs = rw (length-map jobs (λ j. j.items)) at low in
    let same = get_or-map (λ j. j.items) jobs n job [] inside ∙ sym c.as_slice.ensures.value in
    subst (λ b. IsLaneStep b.key b.shape (get_or b.jobs n []) c.args.lane c.args.seat.now c.sealed_job.new.seat c.sealed_job.result) c.self.view_is
    (subst (λ j. IsLaneStep c.self.inside.key.now c.self.inside.shape.now j c.args.lane c.args.seat.now c.sealed_job.new.seat c.sealed_job.result) (sym same) c.sealed_job.ensures)
