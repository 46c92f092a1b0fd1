use Rattle.folder_core.proofs.Parts.{stay_apart}
use Rattle.folder_core.proofs.laws.places_stay_apart.Goals as goal

pub returns : goal.returns
returns c = stay_apart
