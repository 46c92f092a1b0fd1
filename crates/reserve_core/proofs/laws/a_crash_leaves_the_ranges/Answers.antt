use Rattle.reserve_core.proofs.NextRun.{crash_leaves}
use Rattle.reserve_core.proofs.laws.a_crash_leaves_the_ranges.Goals as goal

pub returns : goal.returns
returns g c was before clean kept last files may = crash_leaves was before clean kept last files may
