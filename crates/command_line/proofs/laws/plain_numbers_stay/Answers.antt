use Rattle.command_line.proofs.Written.{plain_stays}
use Rattle.command_line.proofs.laws.plain_numbers_stay.Goals as goal

pub returns : goal.returns
returns c = plain_stays
