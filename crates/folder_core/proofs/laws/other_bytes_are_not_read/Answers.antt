use Rattle.folder_core.proofs.Other.{not_read_back}
use Rattle.folder_core.proofs.laws.other_bytes_are_not_read.Goals as goal

pub returns : goal.returns
returns c = not_read_back
