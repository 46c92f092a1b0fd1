use Rattle.std.proofs.Common.{ap, arith}
use Rattle.piece_core.proofs.ShelfLemmas.{count_seen, put_view}
use Rattle.piece_core.proofs.shelf.Shelf.put.Goals as goal

pub keep_piece-place-requires : goal.keep_piece-place-requires
keep_piece-place-requires c =
    let s = c.self.inside in
    let seen = count_seen s.kind s.header s.places.items s.room.parts c.args.self.now c.self.view_is in
    let named = ap (λ v. v.number) c.piece.view_is in
    let within = c.if-not-fits.ensures.yes.number in
    let same = c.self.invariant.1 in
    omega arith

pub index_mut-requires : goal.index_mut-requires
index_mut-requires c =
    let s = c.self.inside in
    let seen = count_seen s.kind s.header s.places.items s.room.parts c.args.self.now c.self.view_is in
    let named = ap (λ v. v.number) c.piece.view_is in
    let within = c.if-not-fits.ensures.yes.number in
    let whole = s.places.ok.0 in
    omega arith

pub returns-clause-filled : goal.returns-clause-filled
returns-clause-filled c =
    let s = c.self.inside in
    let kept = c.keep_piece-place in
    let fits = rw (← c.piece.view_is, ← c.self.view_is) at c.if-not-fits.ensures.yes in
    let empty = rw (← c.self.view_is) at c.if-is_taken.ensures.no in
    rw (← c.piece.view_is, ← c.self.view_is) (
      fits,
      empty,
      put_view s.kind s.header s.places.items s.room.parts kept.new.room.parts kept.result _ fits kept.ensures.kept,
    )
