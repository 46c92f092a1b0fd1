use Rattle.std.proofs.Common.{arith}
use Rattle.container_core.specs.Shape.{size_of}
use Rattle.container_core.proofs.PartsLemmas.{count-numbers, most_of-chunks, most_of-few, most_of-least, most_of-same}
use Rattle.container_core.proofs.LawLemmas.{sealed-fits}
use Rattle.container_core.proofs.laws.limits_lessened.Goals as goal

pub returns-clause-least : goal.returns-clause-least
returns-clause-least c = λ most size n. (
  λ within. let few = most_of-few most size in
      let chunks = most_of-chunks most size in
      (omega (arith, within, few), omega (arith, within, chunks)),
  λ both. most_of-least most size n both.0 both.1,
)

pub returns-clause-same : goal.returns-clause-same
returns-clause-same c = λ most shape lawful few. most_of-same most (size_of shape) (sealed-fits shape most lawful few)

pub returns-clause-count : goal.returns-clause-count
returns-clause-count c = λ most size n some within.
    let chunks = most_of-chunks most size in
    let few = count-numbers size n some (omega (arith, within, chunks)) in
    omega (arith, few)
