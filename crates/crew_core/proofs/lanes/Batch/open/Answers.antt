use Rattle.std.proofs.Common.{◌≤◌, length, sym, ◌∙◌}
use Rattle.std.proofs.lemmas.List.{length-map}
use Rattle.std.proofs.lemmas.List.Elements.{All-map}
use Rattle.crew_core.proofs.lanes.Batch.open.Goals as goal

pub invariant_of-batch : goal.invariant_of-batch
invariant_of-batch c = record {
  few = rw length-map c.requires.few;
  short = All-map (λ job. length job ≤ 1099511627776) (λ job. job.items) c.args.jobs.now c.requires.short;
  count = c.in_ok-claims.ensures.claims.0 ∙ sym (length-map c.args.jobs.now (λ job. job.items));
}
