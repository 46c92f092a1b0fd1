use Rattle.sqlite.specs.Files.{over_files}
use Rattle.reserve_core.proofs.NextRun.{crash_leaves, found_lasts}
use Rattle.reserve_core.proofs.laws.a_run_passes_on_what_it_found.Goals as goal

pub returns : goal.returns
returns g c files later keeper last found still clean kept may before are =
    crash_leaves last before clean kept (still clean before (found_lasts over_files files keeper before are found)) later may
