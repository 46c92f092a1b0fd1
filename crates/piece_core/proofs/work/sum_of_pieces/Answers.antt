use Rattle.std.proofs.Common.{arith}
use Rattle.container_core.proofs.PartsLemmas.{body-count}
use Rattle.piece_core.proofs.work.sum_of_pieces.Goals as goal

pub returns-in-Sealing-clause-sum : goal.returns-in-Sealing-clause-sum
returns-in-Sealing-clause-sum c =
    let kind = c.in-Sealing.is in
    let sum = body-count c.args.cut.size c.args.cut.plain in
    rw kind (omega (arith, sum, c.plain.ensures, c.count.ensures.count))
