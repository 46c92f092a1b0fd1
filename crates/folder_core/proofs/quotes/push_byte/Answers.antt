use Rattle.std.proofs.Common.{rules}
use Rattle.std.proofs.lemmas.Fmt.{hex_byte}
use Rattle.folder_core.proofs.quotes.push_byte.Goals as goal

pub returns : goal.returns
returns c = search (rules, hex_byte)
