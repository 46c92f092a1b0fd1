use Rattle.std.proofs.Common.{rules, ◌≡◌, ◌++◌, ◌∷◌, []}
use Rattle.crossbeam_queue.specs.Passes.{view}
use Rattle.sealing_core.specs.Hands.{hand}
use Rattle.sealing_core.proofs.Orders.{order_mine}
use Rattle.sealing_core.proofs.RoundLemmas.{way_sealed, way_step}
use Rattle.sealing_core.proofs.feed.seal_or_rest.Goals as goal
use Rattle.sealing_core.proofs.feed.seal_or_rest.Goals.{else-bells-gt1-via-then-bells-gt1+else-seal_last, else-bells-gt1-via-else-bells-gt1}

pub returns-then-seal_last-clause-way : goal.returns-then-seal_last-clause-way
returns-then-seal_last-clause-way g c = λ left plan pieces was.
    let last = c.seal_last.ensures in
    way_sealed _ _ _ _ _ plan _ _ pieces _ _ last.same.0 last.same.1 last.going last.last was

pub returns-in-Some-Job-clause-way : goal.returns-in-Some-Job-clause-way
returns-in-Some-Job-clause-way g c = λ left plan pieces was.
    let p = c.make_piece.result in
    let good = c.make_piece.ensures.piece in
    let hands : view c.take_task.new.pass ≡ hand (view c.args.into.now).parts (view c.args.into.now).put ((view c.args.into.now).taken ++ p.number ∷ []) = search rules in
    way_step _ _ _ _ _ plan c.args.early.now _ (view c.args.into.now) _ pieces pieces c.else-bells-gt1.round (λ put order. order_mine _ _ _ _ put _ _ _ _ pieces p c.place.ensures.places c.place.ensures.same.0 hands good order)
    (elim c.else-bells-gt1.branch [
      | else-bells-gt1-via-then-bells-gt1+else-seal_last w ↦
          let last = w.seal_last.ensures in
          rw w.round-is (way_sealed _ _ _ _ _ plan _ _ pieces _ _ last.same.0 last.same.1 last.going last.last was)
      | else-bells-gt1-via-else-bells-gt1 w ↦ rw w.round-is was
    ])
