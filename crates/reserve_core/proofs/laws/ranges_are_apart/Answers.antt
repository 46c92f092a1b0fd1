use Rattle.ranges_core.proofs.Runs.{adjacent_apart}
use Rattle.reserve_core.proofs.laws.ranges_are_apart.Goals as goal

pub returns : goal.returns
returns c db lists hold key device = adjacent_apart 0 (lists key device) (hold.rows.each key device).adjacent
