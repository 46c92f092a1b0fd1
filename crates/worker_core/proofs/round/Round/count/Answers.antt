use Rattle.std.proofs.Common.{◌∙◌}
use Rattle.worker_core.proofs.ValueLemmas.{length-round}
use Rattle.worker_core.proofs.round.Round.count.Goals as goal

pub returns-clause-count : goal.returns-clause-count
returns-clause-count c =
    let r = c.self.inside in
    c.count.ensures.count
    ∙ length-round r.task r.key.now r.header.now r.first r.last r.cut r.body.now c.args.self.now
    c.self.invariant c.self.view_is
