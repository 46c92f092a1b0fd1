use Rattle.std.proofs.Common.{◌≤◌, ◌+◌, length, map}
use Rattle.command_line.proofs.Bad.{AreReadUpTo, seen}
use Rattle.command_line.proofs.lists.bad_pieces.Given as goal

abbrev pub invariant-pieces : goal.invariant-pieces
invariant-pieces l = AreReadUpTo l.separator l.list l.rest l.number (map seen l.bad.items) × (l.number + length l.rest ≤ 1 + length l.list)

abbrev pub decreases-pieces : goal.decreases-pieces
decreases-pieces l = length l.rest
