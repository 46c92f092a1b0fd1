use Rattle.std.proofs.Common.{◌≡◌, []}
use Rattle.ledger_core.specs.Logs.{from_seat}
use Rattle.ledger_core.specs.Shared.{fresh_seats}
use Rattle.ledger_core.proofs.ledger.deal_out.Given as goal

abbrev pub invariant-loop-number : goal.invariant-loop-number
invariant-loop-number l =
    (l.token.table_id ≡ l.word.shared.table_id)
    × (l.word.shared.table_id.words ≡ 1)
    × (l.token.me ≡ (from_seat l.opening l.number, []))
    × (l.seats.items ≡ fresh_seats l.word.shared.table_id l.opening l.number)
