use Rattle.std.proofs.Common.{◌<◌, ◌≤◌, length, ap, sym, ◌∙◌, arith}
use Rattle.worker_core.specs.Answer.{first_refused}
use Rattle.worker_core.proofs.AnswerLemmas.{first_shown, none_shown_more}
use Rattle.worker_core.proofs.places.Places.first_refused.Goals as goal

pub returns-then-not-index : goal.returns-then-not-index
returns-then-not-index c =
    let p = c.self.inside in
    let room : p.count ≤ length p.pieces.items = omega (arith, c.self.invariant.count, p.pieces.ok.0) in
    sym (first_shown p.pieces.items p.count c.loop-n.n c.index.result.now c.loop-n-test.true room c.index.ensures
    c.if-not-index.true c.loop-n.invariant)
    ∙ ap (λ v. first_refused v.values) c.self.view_is

pub loop-n-preserved : goal.loop-n-preserved
loop-n-preserved c =
    let p = c.self.inside in
    let at : c.loop-n.n < length p.pieces.items =
    omega (arith, c.loop-n-test.true, c.self.invariant.count, p.pieces.ok.0) in
    none_shown_more p.pieces.items c.loop-n.n c.index.result.now at c.index.ensures c.if-not-index.false
    c.loop-n.invariant
