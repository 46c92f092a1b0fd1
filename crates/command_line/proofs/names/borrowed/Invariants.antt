use Rattle.std.proofs.Common.{◌≡◌, ◌++◌, drop, map, string_bytes}
use Rattle.command_line.proofs.Ended.{texts}
use Rattle.command_line.proofs.names.borrowed.Given as goal

abbrev pub invariant-loop-text : goal.invariant-loop-text
invariant-loop-text l = texts l.names.items ++ map string_bytes (drop l.text-index l.texts) ≡ map string_bytes l.texts
