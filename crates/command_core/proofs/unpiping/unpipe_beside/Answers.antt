use Rattle.std.proofs.Common.{refl, rules}
use Rattle.command_core.proofs.unpiping.unpipe_beside.Goals as goal

pub returns-clause-run : goal.returns-clause-run
returns-clause-run g c = λ before tells. let done = c.with_workers.ensures.met.1.1.0 _ before refl tells in search rules
