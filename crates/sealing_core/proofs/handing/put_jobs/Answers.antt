use Rattle.std.proofs.Common.{rules, arith, ap, ◌∙◌, ◌+◌, [], ◌∷◌, None, length, length-append}
use Rattle.sealing_core.specs.declared.line.Hand.{Hand}
use Rattle.sealing_core.proofs.Orders.{place_step, put_step}
use Rattle.sealing_core.proofs.RoundLemmas.{jobs_tasks}
use Rattle.sealing_core.proofs.handing.put_jobs.Goals as goal

pub put_task-requires-clause-task : goal.put_task-requires-clause-task
put_task-requires-clause-task g c =
    let was = c.putting.invariant in
    (jobs_tasks _ _ _ was.tasks.0 _ was.tasks.1 _ _ c.first_of.ensures.items).0

pub putting-preserved : goal.putting-preserved
putting-preserved g c =
    let was = c.putting.invariant in
    let first = c.first_of.ensures.items in
    let long = ap (λ ts. length ts) first in
    let tasks = jobs_tasks _ _ _ was.tasks.0 _ was.tasks.1 _ _ first in
    let view = c.put_task.ensures.view in
    let opened = c.open_place.ensures in
    record {
      pass = c.put_task.ensures.pass;
      parts = ap (λ (v : Hand). v.parts) view ∙ was.parts;
      taken = ap (λ (v : Hand). v.taken) view ∙ was.taken;
      put = put_step _ _ _ c.first_of.result _ _ first (ap (λ (v : Hand). v.put) view) was.put;
      tasks = (was.tasks.0 + 1, tasks.2);
      places = place_step _ _ _ c.first_of.result _ _ first opened.places was.places;
      room = let grown = ap (λ xs. length xs) opened.places ∙ length-append c.putting.early.places.items (None ∷ []) in let kept = opened.same.1 in let r = was.room in omega arith;
      same = search rules;
    }
