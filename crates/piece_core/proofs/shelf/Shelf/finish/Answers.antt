use Rattle.std.proofs.Common.{◌≡◌, Err, ◌∙◌, sym}
use Rattle.piece_core.specs.Answer.{IsFull, shelf_whole}
use Rattle.piece_core.proofs.AnswerLemmas.{whole_of_full}
use Rattle.piece_core.proofs.ShelfLemmas.{whole_held, joined_whole, here_whole}
use Rattle.piece_core.proofs.shelf.Shelf.finish.Goals as goal

pub returns-then-are_here-clause-whole : goal.returns-then-are_here-clause-whole
returns-then-are_here-clause-whole c =
    let s = c.self.inside in
    let all = rw (← c.self.view_is) at c.in_default.ensures.none in
    rw (← c.self.view_is)
    (here_whole s.kind s.header s.places.items c.as_slice.result.now s.room.parts s.room.front c.into_bytes.result.items all c.self.invariant.0
    c.as_slice.ensures.value c.self.invariant.1 c.if-are_here.ensures.yes c.into_bytes.ensures)

pub returns-then-are_here-clause-made : goal.returns-then-are_here-clause-made
returns-then-are_here-clause-made c = λ work of.
    let both = returns-then-are_here-clause-whole c in sym (whole_of_full work c.args.self of both.0) ∙ both.1

pub returns-in-Ok-clause-whole : goal.returns-in-Ok-clause-whole
returns-in-Ok-clause-whole c =
    let s = c.self.inside in
    let all = rw (← c.self.view_is) at c.in_default.ensures.none in
    rw (← c.self.view_is)
    (joined_whole s.kind s.header s.places.items c.as_slice-2.result.now s.room.parts s.room.front c.in-Ok.bytes.items all c.self.invariant.0
    c.as_slice-2.ensures.value c.in-Ok.ensures)

pub returns-in-Ok-clause-made : goal.returns-in-Ok-clause-made
returns-in-Ok-clause-made c = λ work of.
    let both = returns-in-Ok-clause-whole c in sym (whole_of_full work c.args.self of both.0) ∙ both.1

pub returns-in-Err-clause-fault : goal.returns-in-Err-clause-fault
returns-in-Err-clause-fault c =
    let s = c.self.inside in
    let all = rw (← c.self.view_is) at c.in_default.ensures.none in
    rw (← c.self.view_is) (all.0, (_, whole_held s.kind s.header s.places.items s.room.parts all))

pub returns-in-Some-clause-unmade : goal.returns-in-Some-clause-unmade
returns-in-Some-clause-unmade c = λ work chunk of e.
    let ended : IsFull c.args.self × (shelf_whole c.args.self ≡ Err chunk) = rw e at c.in-Some.ensures.fault.1 in
    sym (whole_of_full work c.args.self of ended.0) ∙ ended.1

pub returns-in-Err-clause-unmade : goal.returns-in-Err-clause-unmade
returns-in-Err-clause-unmade c = λ work chunk of e. cc
