use Rattle.sqlite.specs.Held.{state}
use Rattle.ranges_core.proofs.Lasting.{last_of}
use Rattle.reserve_core.proofs.laws.what_is_shown_lasts.Goals as goal

pub returns : goal.returns
returns g c was lists only hold = last_of (state g.S.Store was) lists only hold
