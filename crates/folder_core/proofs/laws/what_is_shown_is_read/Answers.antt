use Rattle.folder_core.proofs.Back.{read_back}
use Rattle.folder_core.proofs.laws.what_is_shown_is_read.Goals as goal

pub returns : goal.returns
returns c = read_back
