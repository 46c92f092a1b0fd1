use Rattle.std.proofs.Common.{◌≡◌, ◌++◌, take}
use Rattle.piece_core.specs.Rooms.{held_from}
use Rattle.piece_core.proofs.shelf.joined.Given as goal

abbrev pub invariant-loop-n : goal.invariant-loop-n
invariant-loop-n l = l.bytes.items ≡ l.room.front ++ held_from 0 (take l.n l.places) l.room.parts
