use Rattle.std.proofs.Common.{arith}
use Rattle.piece_core.proofs.ShelfLemmas.{count_seen, place_empty, place_taken}
use Rattle.piece_core.proofs.shelf.Shelf.is_taken.Goals as goal

pub is_empty_at-requires : goal.is_empty_at-requires
is_empty_at-requires c =
    let s = c.self.inside in
    let seen = count_seen s.kind s.header s.places.items s.room.parts c.args.self.now c.self.view_is in
    rw c.as_slice.ensures.value (omega arith)

pub returns-then-is_empty_at-clause-no : goal.returns-then-is_empty_at-clause-no
returns-then-is_empty_at-clause-no c =
    let s = c.self.inside in
    let seen = count_seen s.kind s.header s.places.items s.room.parts c.args.self.now c.self.view_is in
    let empty = rw c.as_slice.ensures.value at c.if-is_empty_at.ensures.yes in
    rw (← c.self.view_is) (place_empty s.kind s.header s.places.items s.room.parts c.args.number (omega arith) empty)

pub returns-clause-yes : goal.returns-clause-yes
returns-clause-yes c =
    let s = c.self.inside in
    let seen = count_seen s.kind s.header s.places.items s.room.parts c.args.self.now c.self.view_is in
    let taken = rw c.as_slice.ensures.value at c.if-is_empty_at.ensures.no in
    rw (← c.self.view_is) (place_taken s.kind s.header s.places.items s.room.parts c.args.number (omega arith) taken)
