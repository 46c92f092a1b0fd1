use Rattle.std.proofs.Common.{◌≡◌, List, [], refl, subst, rules}
use Rattle.std.proofs.KnownBytes.{Appends-nil}
use Rattle.ledger_core.specs.Closing.{IsWhole}
use Rattle.ledger_core.specs.Shared.{LedgerView, SeatView}
use Rattle.sealer_core.proofs.Journals.{journal_lacks}
use Rattle.sealer_core.proofs.ending.write_journal.Goals as goal

pub returns-in-Err : goal.returns-in-Err
returns-in-Err g c =
    let ledger : c.in-Err.ledger ≡ c.args.ledger = search rules in
    let seats : c.in-Err.seats.items ≡ c.args.seats.items = search rules in (
      c.meet_twice.ensures.0,
      subst (λ (l : LedgerView). IsWhole l.terms c.args.seats.items c.meet_twice.ensures.0) ledger
          (subst (λ (s : List SeatView). IsWhole c.in-Err.ledger.terms s c.meet_twice.ensures.0) seats c.meet_twice.ensures.1),
      (([], (_, refl), Appends-nil _), journal_lacks _ _ _),
    )
