use Rattle.std.proofs.Common.{map, string_bytes}
use Rattle.command_line.specs.Words.{written_out}
use Rattle.command_line.proofs.Written.{IsReadUpTo}
use Rattle.command_line.proofs.words.write_out.Given as goal

abbrev pub invariant-words : goal.invariant-words
invariant-words l = IsReadUpTo l.processors l.most l.before l.i (map string_bytes l.words.items) (written_out l.processors (map string_bytes l.fn.words.items))
