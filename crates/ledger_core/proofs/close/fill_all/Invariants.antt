use Rattle.std.proofs.Common.{◌≡◌, take, length}
use Rattle.ledger_core.specs.Placing.{ArePlaced}
use Rattle.ledger_core.proofs.close.fill_all.Given as goal

abbrev pub invariant-loop-seat : goal.invariant-loop-seat
invariant-loop-seat l = (length l.entries.items ≡ length l.initial.entries.items) × ArePlaced (take l.seat-index l.seats) l.entries.items
