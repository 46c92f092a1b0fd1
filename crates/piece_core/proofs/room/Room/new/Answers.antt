use Rattle.std.proofs.Common.{◌≡◌, ◌+◌, ◌-◌, ◌*◌, ◌<◌, ◌++◌, length, length-append, min, replicate, ap, sym, ◌∙◌}
use Rattle.std.proofs.lemmas.List.{length-replicate}
use Rattle.container_core.specs.Container.{size_in}
use Rattle.worker_core.specs.Parts.{room_of}
use Rattle.piece_core.specs.Values.{task_of}
use Rattle.piece_core.proofs.RoomLemmas.{count_of_parts, length_of_part, room_for}
use Rattle.piece_core.proofs.room.Room.new.Goals as goal

pub returns-clause-count : goal.returns-clause-count
returns-clause-count c = count_of_parts c.size_of_piece.result c.count.result _ c.count.ensures.some ∙ c.count.ensures.count

pub returns-clause-sizes : goal.returns-clause-sizes
returns-clause-sizes c = λ n bytes at e.
    let w = c.args.work.now in
    let total = c.bytes_of_pieces-bytes.result in
    let size = c.size_of_piece.result in
    let front = c.in_ok-whole.whole.items in
    let begin = c.as_slice-front.result.now in
    let whole = c.append_zeros.new.bytes.items in
    let inside : n < c.count.result = rw c.count.ensures.count at in
    let sized : size ≡ room_of (task_of w.kind) (size_in w.header) = rw (← c.kind.ensures, ← c.header.ensures) c.size_of_piece.ensures in
    let items : whole ≡ front ++ replicate total 0 = c.in_ok-append_zeros.ensures in
    let long : length whole ≡ length begin + total =
    ap (λ b. length b) items ∙ length-append front (replicate total 0) ∙ ap (λ k. length front + k) (length-replicate total 0)
    ∙ ap (λ b. length b + total) (sym c.as_slice-front.ensures.value) in
    let fits =
    room_for (length begin) size c.count.result total (length whole) (room_of (task_of w.kind) (size_in w.header)) (length w.values)
    long sized c.count.ensures.count c.bytes_of_pieces-bytes.ensures.most in
    c.bytes_of_pieces-bytes.ensures.each n bytes at e
    ∙ ap (λ s. min s (total - n * s)) (sym sized)
    ∙ sym (length_of_part (length begin) size c.count.result total whole n c.count.ensures.some inside long fits)
