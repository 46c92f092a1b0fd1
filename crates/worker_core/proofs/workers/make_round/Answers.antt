use Rattle.std.proofs.Common.{◌≡◌, ◌++◌, List, sym, subst, take-append-drop, All}
use Rattle.worker_core.specs.Views.{BenchView}
use Rattle.worker_core.specs.Crew.{IsReady}
use Rattle.worker_core.proofs.Making.{made_beside, worked_append, worked_whole, all_idle, all_behind}
use Rattle.worker_core.proofs.workers.make_round.Goals as goal

pub returns-clause-made : goal.returns-clause-made
returns-clause-made g c = made_beside _ _ _ c.make_by.ensures.made

pub returns-clause-worked : goal.returns-clause-worked
returns-clause-worked g c =
    let round = c.args.round.now in
    let used = c.split_at_mut-used.result.0.now in
    let rest = c.split_at_mut-used.result.1.now in
    let whole : used ++ rest ≡ c.args.benches.now = rw (c.split_at_mut-used.ensures.front, c.split_at_mut-used.ensures.back) (take-append-drop _ _) in
    let ready = subst (λ (l : List BenchView). All (IsReady round) l) (sym whole) c.requires.ready in
    worked_whole _ _ _ _ whole (worked_append _ _ _ _ _ c.make_by.ensures.worked (all_idle round rest (all_behind round used rest ready)))
