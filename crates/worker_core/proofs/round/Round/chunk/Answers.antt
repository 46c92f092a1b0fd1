use Rattle.std.proofs.Common.{arith}
use Rattle.worker_core.proofs.ValueLemmas.{length-round}
use Rattle.worker_core.proofs.round.Round.chunk.Goals as goal

pub overflow_add-result : goal.overflow_add-result
overflow_add-result c =
    let r = c.self.inside in
    let count =
    length-round r.task r.key.now r.header.now r.first r.last r.cut r.body.now c.args.self.now
    c.self.invariant c.self.view_is in
    omega (arith, c.requires, c.self.invariant.numbers)
