use Rattle.sqlite.specs.Held.{state}
use Rattle.ranges_core.proofs.Lasting.{next_run}
use Rattle.reserve_core.proofs.laws.next_run_has_the_ranges.Goals as goal

pub returns : goal.returns
returns g c was found now before lists last some sound opened hold =
    next_run (state g.S.Store was) before lists (state g.T.Store found).now (state g.T.Store now).now last some sound opened hold
