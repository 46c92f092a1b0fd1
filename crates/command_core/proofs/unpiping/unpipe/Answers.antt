use Rattle.std.proofs.Common.{sym}
use Rattle.command_core.proofs.Files.{open_file}
use Rattle.command_core.proofs.Unpipings.{closed_unpiped, idle_stream, new_still}
use Rattle.command_core.proofs.unpiping.unpipe.Goals as goal

pub unpipe_beside-outcome-requires-clause-open : goal.unpipe_beside-outcome-requires-clause-open
unpipe_beside-outcome-requires-clause-open g c κs within =
    open_file _ _ _ _ _ c.in-Ok.ensures.opened (idle_stream _ _ c.requires.new) c.in-Ok.ensures.count

pub unpipe_beside-outcome-requires-clause-new : goal.unpipe_beside-outcome-requires-clause-new
unpipe_beside-outcome-requires-clause-new g c κs within = new_still _ _ _ _ _ c.requires.new c.in-Ok.ensures.opened

pub returns : goal.returns
returns g c = rw (sym c.in-Ok.ensures.taken, sym c.in-Ok.ensures.failures, c.close.ensures.taken, c.close.ensures.failures)
    (closed_unpiped _ _ _ _ _ _ _ _ _ _ _ _ _ _ _ _ _ c.unpipe_beside-outcome.ensures.run c.unpipe_beside-outcome.ensures.read
    c.in-Ok.ensures.count c.in-Ok.ensures.opened c.close.ensures.closed)
