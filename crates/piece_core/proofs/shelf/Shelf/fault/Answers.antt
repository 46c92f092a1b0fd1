use Rattle.piece_core.proofs.ShelfLemmas.{gap_of, full_of, forged_of, none_refused}
use Rattle.piece_core.proofs.shelf.Shelf.fault.Goals as goal

pub returns-then-has_gap-clause-fault : goal.returns-then-has_gap-clause-fault
returns-then-has_gap-clause-fault c =
    let s = c.self.inside in
    let found = rw c.as_slice.ensures.value at c.if-has_gap.ensures.gap in
    let (n, at, e) = found in
    ((λ same. cc), rw (← c.self.view_is) (gap_of s.kind s.header s.places.items s.room.parts n at e))

pub returns-in-Some-clause-fault : goal.returns-in-Some-clause-fault
returns-in-Some-clause-fault c =
    let s = c.self.inside in
    let full = rw c.as_slice.ensures.value at c.if-has_gap.ensures.full in
    let first = rw c.as_slice-2.ensures.value at c.in-Some.ensures.found in (
      (λ same. cc),
      rw (← c.self.view_is) (
        full_of s.kind s.header s.places.items s.room.parts full,
        forged_of s.kind s.header s.places.items s.room.parts c.in-Some.chunk first,
      ),
    )

pub returns-in-None-clause-none : goal.returns-in-None-clause-none
returns-in-None-clause-none c =
    let s = c.self.inside in
    let all = rw c.as_slice-2.ensures.value at c.in-None.ensures.none in
    let full = rw c.as_slice.ensures.value at c.if-has_gap.ensures.full in
    rw (← c.self.view_is) (
      full_of s.kind s.header s.places.items s.room.parts full,
      none_refused s.kind s.header 0 s.places.items s.room.parts all,
    )
