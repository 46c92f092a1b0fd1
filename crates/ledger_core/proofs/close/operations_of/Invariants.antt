use Rattle.std.proofs.Common.{◌≡◌, ◌≤◌, ◌*◌, take}
use Rattle.ledger_core.specs.Placing.{operations_in}
use Rattle.ledger_core.proofs.close.operations_of.Given as goal

abbrev pub invariant-loop-seat : goal.invariant-loop-seat
invariant-loop-seat l = (l.count ≡ operations_in (take l.seat-index l.seats)) × (l.count ≤ 1048576 * l.seat-index)
