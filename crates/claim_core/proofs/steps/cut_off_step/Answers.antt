use Rattle.std.proofs.Common.{rules}
use Rattle.claim_core.proofs.Keeps.{cuts_off}
use Rattle.claim_core.proofs.steps.cut_off_step.Goals as goal

pub split_seat-requires : goal.split_seat-requires
split_seat-requires c =
    let t = c.requires.table in
    let fresh = c.requires.fresh in
    (t.same, search rules, cuts_off _ _ _ fresh.0 fresh.1 fresh.2)
