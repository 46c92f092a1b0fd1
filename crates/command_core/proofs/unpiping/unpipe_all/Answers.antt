use Rattle.std.proofs.Common.{[]}
use Rattle.command_core.proofs.Telling.{nothing_told}
use Rattle.command_core.proofs.unpiping.unpipe_all.Goals as goal

pub returns-clause-status : goal.returns-clause-status
returns-clause-status g c = (c.tell.ensures [] _ _ (nothing_told _ _)).range

pub returns-clause-run : goal.returns-clause-run
returns-clause-run g c = (_, c.unpipe-outcome.ensures, c.tell.ensures [] _ _ (nothing_told _ _))
