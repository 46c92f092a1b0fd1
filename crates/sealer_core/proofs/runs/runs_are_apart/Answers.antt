use Rattle.sealer_core.proofs.Apart.{folds_apart}
use Rattle.sealer_core.proofs.runs.runs_are_apart.Goals as goal

pub returns : goal.returns
returns g c = folds_apart _ _ _ _ (λ a b same. cc) (λ a b same. cc) (λ a b same. cc) (λ a b same. cc) g.met.D.Disk.seen_may_stay
