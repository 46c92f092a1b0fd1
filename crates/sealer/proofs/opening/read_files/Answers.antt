use Rattle.sealer.proofs.Statuses.{of_added}
use Rattle.sealer.proofs.opening.read_files.Goals as goal

pub returns-in-Open : goal.returns-in-Open
returns-in-Open g c = record { status = rw c.in-Open.is (of_added _ _ _ _ _ _ _ _ c.open_files.ensures.files) }

pub returns : goal.returns
returns g c = record { status = rw c.in-Verify.is (of_added _ _ _ _ _ _ _ _ c.verify_files.ensures.files) }
