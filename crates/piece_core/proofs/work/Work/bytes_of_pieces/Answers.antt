use Rattle.std.proofs.Common.{◌<◌, arith, length, get_or, None, ap, ◌∙◌}
use Rattle.piece_core.specs.Values.{work_values}
use Rattle.piece_core.proofs.ValueLemmas.{length-value, most_plain-most, pieces_of}
use Rattle.piece_core.proofs.work.Work.bytes_of_pieces.Goals as goal

pub returns-clause-least : goal.returns-clause-least
returns-clause-least c =
    let w = c.self.inside in
    rw (← c.self.view_is, c.sum_of_pieces.ensures.sum) (pieces_of w.kind w.key.now w.header w.cut w.body.now c.self.invariant).0

pub returns-clause-most : goal.returns-clause-most
returns-clause-most c =
    let w = c.self.inside in
    rw (← c.self.view_is, c.sum_of_pieces.ensures.sum) (pieces_of w.kind w.key.now w.header w.cut w.body.now c.self.invariant).1

pub returns-clause-each : goal.returns-clause-each
returns-clause-each c = λ n bytes at e.
    let w = c.self.inside in
    let below : n < length (work_values w.kind w.key.now w.header w.body.now) = rw (ap (λ v. length v.values) c.self.view_is) at in
    let named = ap (λ v. get_or v.values n None) c.self.view_is ∙ e in
    rw (← c.self.view_is, c.sum_of_pieces.ensures.sum)
    (length-value w.kind w.key.now w.header w.cut w.body.now n bytes c.self.invariant below named)

pub sum_of_pieces-requires : goal.sum_of_pieces-requires
sum_of_pieces-requires c =
    let most = most_plain-most c.self.inside.kind in
    omega (arith, most, c.self.invariant.few)
