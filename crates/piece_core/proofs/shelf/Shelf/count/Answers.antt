use Rattle.std.proofs.Common.{◌∙◌, length, ap}
use Rattle.piece_core.proofs.ShelfLemmas.{count_seen}
use Rattle.piece_core.proofs.shelf.Shelf.count.Goals as goal

pub returns : goal.returns
returns c =
    let s = c.self.inside in
    ap (λ ps. length ps) c.as_slice.ensures.value
    ∙ count_seen s.kind s.header s.places.items s.room.parts c.args.self.now c.self.view_is
