use Rattle.std.proofs.Common.{rules, ◌∙◌}
use Rattle.claim_core.proofs.Keeps.{takes_in}
use Rattle.claim_core.proofs.steps.take_in_step.Goals as goal

pub join_seat-requires : goal.join_seat-requires
join_seat-requires c =
    let t = c.requires.table in
    let other = c.requires.other in
    let workers = c.requires.workers in
    (t.same, other.0 ∙ t.same, other.1, search rules, takes_in _ _ _ _ _ workers.0 workers.1)
