use Rattle.command_core.proofs.Files.{open_file}
use Rattle.command_core.proofs.verifying.verify_file.Goals as goal

pub verify_opened-requires-clause-open : goal.verify_opened-requires-clause-open
verify_opened-requires-clause-open g c κs within =
    open_file _ _ _ _ _ c.in-Ok.ensures.opened c.requires.idle c.in-Ok.ensures.count

pub returns-in-Ok-clause-adds : goal.returns-in-Ok-clause-adds
returns-in-Ok-clause-adds g c = c.verify_opened.ensures.adds _ c.in-Ok.ensures.opened
