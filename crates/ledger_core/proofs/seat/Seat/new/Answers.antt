use Rattle.ledger_core.proofs.Seats.{new_is_seat}
use Rattle.ledger_core.proofs.seat.Seat.new.Goals as goal

pub invariant_of-result : goal.invariant_of-result
invariant_of-result c =
    let o = c.requires.own in
    new_is_seat _ _ _ _ _ _ c.requires.terms.0 c.requires.terms.1 o.0 o.1 o.2 c.requires.none_held c.requires.token
