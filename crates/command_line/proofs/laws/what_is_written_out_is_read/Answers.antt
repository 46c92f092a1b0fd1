use Rattle.command_line.proofs.Written.{read_back}
use Rattle.command_line.proofs.laws.what_is_written_out_is_read.Goals as goal

pub returns : goal.returns
returns c = read_back
