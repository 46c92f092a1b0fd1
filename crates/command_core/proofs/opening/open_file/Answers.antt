use Rattle.command_core.proofs.Files.{open_file}
use Rattle.command_core.proofs.opening.open_file.Goals as goal

pub open_opened-requires-clause-open : goal.open_opened-requires-clause-open
open_opened-requires-clause-open g c κs within =
    open_file _ _ _ _ _ c.in-Ok.ensures.opened c.requires.idle c.in-Ok.ensures.count

pub returns-in-Ok-clause-adds : goal.returns-in-Ok-clause-adds
returns-in-Ok-clause-adds g c = c.open_opened.ensures.adds _ c.in-Ok.ensures.opened

pub returns-in-Err-clause-adds : goal.returns-in-Err-clause-adds
returns-in-Err-clause-adds g c = c.in-Err.ensures.adds _
