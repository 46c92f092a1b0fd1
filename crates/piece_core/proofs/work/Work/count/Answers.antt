use Rattle.std.proofs.Common.{length, ap, arith, ◌∙◌, sym}
use Rattle.piece_core.proofs.ValueLemmas.{length-work_values, most_plain-sealing}
use Rattle.piece_core.proofs.work.Work.count.Goals as goal

pub returns-clause-count : goal.returns-clause-count
returns-clause-count c =
    let w = c.self.inside in
    c.count.ensures.count ∙ sym (length-work_values w.kind w.key.now w.header w.cut w.body.now c.self.invariant)
    ∙ ap (λ v. length v.values) c.self.view_is

pub returns-clause-sealing : goal.returns-clause-sealing
returns-clause-sealing c = λ sealing.
    let w = c.self.inside in
    let most = most_plain-sealing w.kind (ap (λ v. v.kind) c.self.view_is ∙ sealing) in
    c.count.ensures.few (omega (arith, most, c.self.invariant.few))
