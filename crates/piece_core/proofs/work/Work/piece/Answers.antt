use Rattle.std.proofs.Common.{◌≡◌, ◌<◌, length, ap, ◌∙◌, sym, refl, true}
use Rattle.container_core.specs.Chunks.{chunk_count}
use Rattle.container_core.specs.Container.{size_in}
use Rattle.worker_core.specs.Values.{parts_of}
use Rattle.worker_core.proofs.ValueLemmas.{length-values}
use Rattle.piece_core.specs.Values.{task_of}
use Rattle.piece_core.proofs.ValueLemmas.{length-work_values, get_or-work_values}
use Rattle.piece_core.proofs.work.Work.piece.Goals as goal

pub part_of_work-part-requires-clause-number : goal.part_of_work-part-requires-clause-number
part_of_work-part-requires-clause-number c =
    let w = c.self.inside in
    let len : chunk_count w.cut.size w.cut.plain ≡ length c.args.self.now.values =
    sym (length-work_values w.kind w.key.now w.header w.cut w.body.now c.self.invariant) ∙ ap (λ v. length v.values) c.self.view_is in
    rw len c.requires

pub part_of_work-part-requires-clause-cut : goal.part_of_work-part-requires-clause-cut
part_of_work-part-requires-clause-cut c = c.self.invariant.bytes

pub returns : goal.returns
returns c =
    let w = c.self.inside in
    let many : length (parts_of (task_of w.kind) (size_in w.header) w.body.now) ≡ length c.args.self.now.values =
    sym (length-values (task_of w.kind) w.key.now w.header 0 true w.body.now) ∙ ap (λ v. length v.values) c.self.view_is in
    let below : c.args.number < length (parts_of (task_of w.kind) (size_in w.header) w.body.now) = rw many c.requires in
    let value = get_or-work_values w.kind w.key.now w.header w.body.now c.args.number below in
    let part = c.part_of_work-part.ensures.part in
    rw (← c.self.view_is, value, many, ← c.count-count.ensures.count, c.copy.ensures, ← c.self.invariant.size, ← part)
    (let kept = c.in_ok-value.ensures in rw kept refl)
