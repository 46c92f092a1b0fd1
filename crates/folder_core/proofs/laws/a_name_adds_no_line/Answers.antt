use Rattle.folder_core.proofs.Line.{in_one_line}
use Rattle.folder_core.proofs.laws.a_name_adds_no_line.Goals as goal

pub returns : goal.returns
returns c = in_one_line
