use Rattle.std.proofs.Common.{◌++◌, ◌∙◌, ap, get_or}
use Rattle.std.proofs.lemmas.List.{get_or_read}
use Rattle.piece_core.specs.declared.shelf.ShelfPlace.TheVariants.{Empty}
use Rattle.piece_core.specs.Rooms.{held}
use Rattle.piece_core.proofs.ShelfLemmas.{held_more}
use Rattle.piece_core.proofs.shelf.joined.Goals as goal

pub loop-n-preserved : goal.loop-n-preserved
loop-n-preserved c =
    let ps = c.args.places.now in
    let n = c.loop-n.n in
    let read = get_or_read ps n c.index-places-n.result c.loop-n-test.true c.index-places-n.is Empty in
    held_more c.args.room.now.front c.loop-n.bytes.items c.append_held.new.bytes.items ps c.args.room.now.parts n c.loop-n-test.true c.loop-n.invariant
    (c.in_ok-append_held.ensures ∙ ap (λ p. c.loop-n.bytes.items ++ held p c.part.result.now) read
    ∙ ap (λ b. c.loop-n.bytes.items ++ held (get_or ps n Empty) b) c.part.ensures)
