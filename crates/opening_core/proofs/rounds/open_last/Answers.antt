use Rattle.std.proofs.Common.{rules, ◌≡◌, true, inr, Ok, length, take, ap, sym, ◌∙◌, arith}
use Rattle.std.proofs.KnownBytes.{Appends-trans}
use Rattle.worker_core.specs.Answer.{joined}
use Rattle.worker_core.specs.Values.{values_of}
use Rattle.std.proofs.lemmas.Result.{IfErr-at_err}
use Rattle.container_core.specs.Container.{size_in}
use Rattle.container_core.specs.Cutting.{RefusesCut}
use Rattle.container_core.proofs.OpeningLemmas.{some_size}
use Rattle.opening_core.proofs.OpeningRounds.{count-last, count-room, cut-same, no-refusal}
use Rattle.opening_core.proofs.SentLemmas.{front-behind, last-may}
use Rattle.opening_core.proofs.rounds.open_last.Goals as goal

pub unreachable-requires : goal.unreachable-requires
unreachable-requires g c =
    let size = size_in c.args.context.now.header.now in
    let (plain, is, few, numbers) = c.requires.cut in
    no-refusal size (length c.held-length.result.now) plain c.in_default.field-0 (some_size c.args.context.now.header.now)
    (ap length c.held-length.ensures ∙ is) few
    (IfErr-at_err (RefusesCut size (length c.held-length.result.now)) c.in_default.is c.of_body.ensures.refused)

pub new-round-requires-clause-numbers : goal.new-round-requires-clause-numbers
new-round-requires-clause-numbers g c =
    let (plain, is, few, numbers) = c.requires.cut in
    let same = cut-same c.in-Ok.cut (size_in c.args.context.now.header.now) plain (length c.held-length.result.now) (some_size c.args.context.now.header.now)
    c.in-Ok.ensures.size (ap length c.held-length.ensures ∙ is) c.in-Ok.ensures.places in
    omega (arith, same, numbers)

pub share-sharing-requires-clause-count : goal.share-sharing-requires-clause-count
share-sharing-requires-clause-count g c =
    let size = size_in c.args.context.now.header.now in
    let held = c.args.rooms.now.current.held in
    let bytes = c.take_buffer-bytes.result.items in
    let body : take (length c.held-length.result.now) bytes ≡ held =
    ap (λ h. take (length h) bytes) c.held-length.ensures ∙ c.take_buffer-bytes.ensures.held in
    let (plain, is, few, numbers) = c.requires.cut in
    let values = c.pieces_by_number.ensures.count c.args.context.now.task c.args.context.now.key.now c.args.context.now.header.now c.args.first true held
    ∙ count-last c.args.context.now.task size held plain c.args.context.now.reads (c.chunks_by_number.ensures.sealed_count size held plain (some_size c.args.context.now.header.now) is) in
    let made = ap (λ r. length r.values) c.new-round.ensures.round
    ∙ ap (λ b. length (values_of c.args.context.now.task c.args.context.now.key.now c.args.context.now.header.now c.args.first true b)) body in
    let room = count-room size plain c.args.rooms.now.places.room (some_size c.args.context.now.header.now) (omega (arith, is, c.requires.ready.enough)) in
    omega (arith, values, made, room, c.requires.ready.rooms)

pub share-sharing-requires-clause-slots : goal.share-sharing-requires-clause-slots
share-sharing-requires-clause-slots g c =
    let count = share-sharing-requires-clause-count g c in
    omega (arith, count, c.requires.ready.rooms)

pub returns-in-Ok-take_last-clause-opened : goal.returns-in-Ok-take_last-clause-opened
returns-in-Ok-take_last-clause-opened g c =
    let key = c.args.context.now.key.now in
    let header = c.args.context.now.header.now in
    let held = c.args.rooms.now.current.held in
    let last = c.finish-finished.new.places.values in
    let bytes = c.take_buffer-bytes.result.items in
    let body : take (length c.held-length.result.now) bytes ≡ held =
    ap (λ h. take (length h) bytes) c.held-length.ensures ∙ c.take_buffer-bytes.ensures.held in
    let is : last ≡ values_of c.args.context.now.task key header c.args.first true held =
    c.in-Ok-finished.ensures.values ∙ ap (λ o. o.round.values) c.share-sharing.ensures.shared.0 ∙ ap (λ r. r.values) c.new-round.ensures.round
    ∙ ap (λ b. values_of c.args.context.now.task key header c.args.first true b) body in
    let opened = c.in-Ok-checked.ensures.opened key header held true is in
    (joined last, opened, Appends-trans _ _ _ (joined c.args.rooms.now.places.values) (joined last) c.in-Ok-taken.ensures.gathered.all c.in-Ok-take_last.ensures.gathered.all)

pub returns-clause-begun : goal.returns-clause-begun
returns-clause-begun g c = λ opening.
    let key = c.args.context.now.key.now in
    let header = c.args.context.now.header.now in
    let held = c.args.rooms.now.current.held in
    let last = c.finish-finished.new.places.values in
    let waiting = c.args.rooms.now.places.values in
    let bytes = c.take_buffer-bytes.result.items in
    let body : take (length c.held-length.result.now) bytes ≡ held =
    ap (λ h. take (length h) bytes) c.held-length.ensures ∙ c.take_buffer-bytes.ensures.held in
    let is : last ≡ values_of c.args.context.now.task key header c.args.first true held =
    c.in-Ok-finished.ensures.values ∙ ap (λ o. o.round.values) c.share-sharing.ensures.shared.0 ∙ ap (λ r. r.values) c.new-round.ensures.round
    ∙ ap (λ b. values_of c.args.context.now.task key header c.args.first true b) body in
    let opened = c.in-Ok-checked.ensures.opened key header held true is in
    inr (
      joined last,
      opened.opens ∙ ap Ok (sym (opened.kept opening)),
      front-behind _ _ _ (joined waiting) (joined last) c.in-Ok-taken.ensures.gathered.all c.in-Err-take_last.ensures.gathered.begun,
    )

pub take_last-requires : goal.take_last-requires
take_last-requires g c =
    let key = c.args.context.now.key.now in
    let header = c.args.context.now.header.now in
    let held = c.args.rooms.now.current.held in
    let values = c.finish-finished.new.places.values in
    let waiting = c.args.rooms.now.places.values in
    let bytes = c.take_buffer-bytes.result.items in
    let body : take (length c.held-length.result.now) bytes ≡ held =
    ap (λ h. take (length h) bytes) c.held-length.ensures ∙ c.take_buffer-bytes.ensures.held in
    let is : values ≡ values_of c.args.context.now.task key header c.args.first true held =
    c.in-Ok-finished.ensures.values ∙ ap (λ o. o.round.values) c.share-sharing.ensures.shared.0 ∙ ap (λ r. r.values) c.new-round.ensures.round
    ∙ ap (λ b. values_of c.args.context.now.task key header c.args.first true b) body in
    let opened = c.in-Ok-checked.ensures.opened key header held true is in
    record {
      may = last-may c.args.context.now.task key header c.args.first held waiting values _ _ _ _ c.requires.may (search rules)
          (λ opening. opened.opens ∙ ap Ok (sym (opened.kept opening))) c.in-Ok-taken.ensures.gathered.all;
    }
