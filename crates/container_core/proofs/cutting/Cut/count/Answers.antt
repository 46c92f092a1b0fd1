use Rattle.std.proofs.Common.{arith}
use Rattle.container_core.proofs.PartsLemmas.{count-some}
use Rattle.container_core.proofs.cutting.Cut.count.Goals as goal

pub returns-clause-some : goal.returns-clause-some
returns-clause-some c =
    let some = count-some c.self.inside.size c.self.inside.plain in
    omega (arith, some, c.chunks_of.ensures.count)
