use Rattle.folder_core.proofs.Started.{no_number, started_sound}
use Rattle.folder_core.proofs.laws.no_number_without_a_key.Goals as goal

pub returns-clause-none : goal.returns-clause-none
returns-clause-none c r number sound none = no_number r number sound none

pub returns-clause-started : goal.returns-clause-started
returns-clause-started c r taken key range un both = started_sound r taken key range un both
