use Rattle.std.proofs.Common.{◌≡◌, ◌++◌, drop, map, string_bytes}
use Rattle.folder_core.specs.Quotes.{quoted}
use Rattle.command_line.proofs.Ended.{texts}
use Rattle.command_line.proofs.names.quoted_names.Given as goal

abbrev pub invariant-loop-name : goal.invariant-loop-name
invariant-loop-name l = map string_bytes l.shown.items ++ map quoted (texts (drop l.name-index l.names)) ≡ map quoted (texts l.names)
