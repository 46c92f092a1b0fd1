use Rattle.std.proofs.Common.{arith}
use Rattle.sealing_core.proofs.ChunkLemmas.{cut_next, written_next}
use Rattle.sealing_core.proofs.MayLemmas.{may_turn}
use Rattle.sealing_core.proofs.Orders.{first_is, order_back, order_next, order_same}
use Rattle.sealing_core.proofs.writing.write_or_take_back.Goals as goal

pub keep-requires-clause-buffer : goal.keep-requires-clause-buffer
keep-requires-clause-buffer g c =
    let good = (first_is _ _ _ _ _ _ _ c.in-Some.piece c.in-Some.ensures.some.0 c.requires.kept).1 in
    let e = c.requires.size in
    let b = good.0 in
    omega arith

pub write_part-requires : goal.write_part-requires
write_part-requires g c =
    let p = c.in-Some.piece in
    let first = first_is _ _ _ _ _ _ _ p c.in-Some.ensures.some.0 c.requires.kept in
    record { may = may_turn _ _ _ _ _ _ _ p.number _ p.buffer.items _ c.requires.each first.0 c.as_slice.ensures.value first.1.1 c.requires.may }

pub returns-in-Some-clause-order : goal.returns-in-Some-clause-order
returns-in-Some-clause-order g c = λ chunks jobs was.
    order_next _ _ _ _ chunks c.args.early.now c.next.new.self jobs _ c.in-Some.piece c.in-Some.ensures.some.0 c.in-Some.ensures.some.1 was

pub returns-in-Some-clause-written : goal.returns-in-Some-clause-written
returns-in-Some-clause-written g c = λ taken was.
    let p = c.in-Some.piece in
    let first = first_is _ _ _ _ _ _ _ p c.in-Some.ensures.some.0 c.requires.kept in
    written_next _ _ _ _ _ taken _ _ p.number _ _ _ _ c.requires.each first.0 c.in-Some.ensures.some.1 c.as_slice.ensures.value first.1.1 was c.in_default-write_part.ensures.ok

pub returns-in-Err-clause-begun : goal.returns-in-Err-clause-begun
returns-in-Err-clause-begun g c = λ taken was.
    let p = c.in-Some.piece in
    let first = first_is _ _ _ _ _ _ _ p c.in-Some.ensures.some.0 c.requires.kept in
    cut_next _ _ _ _ _ taken _ _ p.number _ _ _ c.requires.each first.0 c.as_slice.ensures.value first.1.1 was c.in-Err.ensures.err c.in-Err.ensures.short

pub returns-clause-order : goal.returns-clause-order
returns-clause-order g c = λ chunks jobs was.
    let none = c.in_default.ensures.none in
    let got = c.in-Some-take_piece.ensures.some in
    order_back _ _ _ _ chunks c.next.new.self _ jobs _ _ c.in-Some-take_piece.piece c.place.ensures.places c.place.ensures.same.0 got.1 got.0
    (order_same _ _ _ _ chunks c.args.early.now c.next.new.self jobs _ none.0 none.1 was)
