use Rattle.std.proofs.Common.{arith}
use Rattle.opening_core.proofs.ReadLemmas.{read_behind}
use Rattle.opening_core.proofs.window.read_between.Goals as goal

pub returns-clause-read : goal.returns-clause-read
returns-clause-read g c = read_behind _ _ _ _ _ _ _ (omega arith) c.read.ensures.bound c.read.ensures.bytes
