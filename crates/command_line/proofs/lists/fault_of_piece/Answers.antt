use Rattle.std.proofs.Common.{rules}
use Rattle.command_line.proofs.Bad.{text, no-text}
use Rattle.command_line.proofs.lists.fault_of_piece.Goals as goal

pub returns-in-Ok : goal.returns-in-Ok
returns-in-Ok c = search (rules, text)

pub returns-in-Err : goal.returns-in-Err
returns-in-Err c = search (rules, no-text)
