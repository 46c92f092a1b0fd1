use Rattle.std.proofs.Common.{rules, ◌≡◌, Some, sym}
use Rattle.worker_core.specs.Answer.{first_refused}
use Rattle.crew_core.proofs.rounds.all_checked.Goals as goal

pub overflow_add-result : goal.overflow_add-result
overflow_add-result c =
    let is : Some c.in-Some.number ≡ first_refused c.args.places.now.values = search rules in
    let below = c.refused_pieces.ensures.refused c.args.places.now.values c.in-Some.number (sym is) in
    search rules
