use Rattle.folder_core.proofs.Parts.{stays_below}
use Rattle.folder_core.proofs.laws.a_place_stays_below.Goals as goal

pub returns : goal.returns
returns c = stays_below
