use Rattle.folder_core.proofs.Ending.{ending_stays}
use Rattle.folder_core.proofs.laws.an_ending_stays.Goals as goal

pub returns : goal.returns
returns c = ending_stays
