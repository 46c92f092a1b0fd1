use Rattle.std.proofs.Common.{refl, ap, ◌∙◌, replicate, None}
use Rattle.piece_core.specs.Rooms.{pieces_from}
use Rattle.piece_core.proofs.ShelfLemmas.{pieces_from-empty}
use Rattle.piece_core.proofs.shelf.Shelf.new.Goals as goal

pub returns : goal.returns
returns c =
    let same = ap (λ ps. pieces_from c.kind.result c.copy.result 0 ps c.in_ok-room.room.parts) c.in_ok-places.ensures
    ∙ pieces_from-empty c.kind.result c.copy.result 0 c.count.result c.in_ok-room.room.parts ∙ ap (λ n. replicate n None) c.count.ensures.count in
    rw (same, c.kind.ensures, c.copy.ensures, c.header.ensures) refl
