use Rattle.std.proofs.Common.{length, map, string_bytes}
use Rattle.command_line.proofs.Pieces.{AreCutUpTo}
use Rattle.command_line.proofs.names.with_pieces.Given as goal

abbrev pub invariant-pieces : goal.invariant-pieces
invariant-pieces l = AreCutUpTo l.separator l.list l.rest (map string_bytes l.fn.shown.items) (map string_bytes l.shown.items)

abbrev pub decreases-pieces : goal.decreases-pieces
decreases-pieces l = length l.rest
