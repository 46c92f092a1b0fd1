use Rattle.std.proofs.Common.{◌≡◌, List, subst, rules}
use Rattle.ledger_core.specs.Closing.{HaveMet}
use Rattle.ledger_core.specs.Shared.{SeatView}
use Rattle.ledger_core.proofs.Meetings.{whole_of_met}
use Rattle.sealer_core.proofs.ending.meet_twice.Goals as goal

pub returns : goal.returns
returns c =
    let same : c.as_mut_slice.result.now ≡ c.args.seats.items = search rules in
    whole_of_met c.args.ledger c.args.seats.items c.meet_all.new.seats c.meet_all.ensures.0 c.requires
    (subst (λ (l : List SeatView). HaveMet l c.meet_all.new.seats c.meet_all.ensures.0) same c.meet_all.ensures.1)
