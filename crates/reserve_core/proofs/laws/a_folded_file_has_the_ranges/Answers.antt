use Rattle.reserve_core.proofs.NextRun.{fold_leaves}
use Rattle.reserve_core.proofs.laws.a_folded_file_has_the_ranges.Goals as goal

pub returns : goal.returns
returns g c was left before by honest keeps files may = fold_leaves was left before by honest keeps files may
