use Rattle.std.specs.Prelude.{[]}
use Rattle.sqlite.specs.Files.{over_files}
use Rattle.ranges_core.specs.Reservations.{Lists}
use Rattle.reserve_core.specs.NextRun.{AreIn}
use Rattle.reserve_core.proofs.NextRun.{fold_clean, fold_keeps, fold_leaves, found_lasts}
use Rattle.reserve_core.proofs.laws.a_folded_run_passes_on_what_it_found.Goals as goal

pub returns : goal.returns
returns g c files later keeper last left found still by honest may =
    let stays = g.met.D.Disk.seen_may_stay in
    let both : (before : Lists) → AreIn before files → AreIn before later × AreIn before (record later { log = [] }) = λ before are. fold_leaves last left before by honest
    (fold_keeps last left before stays by honest (still (fold_clean last left by honest) before (found_lasts over_files files keeper before are found))) later may in
    (λ before are. (both before are).0, λ before are. (both before are).1)
