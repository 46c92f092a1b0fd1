-- For callers: after a batch, the seats that were all seats of a ledger still are.
use Rattle.std.proofs.Common.{◌≡◌, ◌<◌, List, length, get_or, ◌∙◌, arith}
use Rattle.std.proofs.lemmas.Option.{slice_get-get_or, slice_get_within}
use Rattle.ledger_core.specs.Closing.{AreAllSeats}
use Rattle.ledger_core.specs.Shared.{LedgerView, SeatView}
use Rattle.crew_core.specs.Batch.{GoOn}

pub all_after_batch : (ledger : LedgerView) (old new : List SeatView) → length new ≡ length old → GoOn old new → AreAllSeats ledger old → AreAllSeats ledger new
all_after_batch ledger old new long on all = record {
  count = long ∙ all.count;
  each = λ i w at.
      let below = slice_get_within new i w at in
      let inside : i < length old = omega arith in
      let v = get_or old i w in
      let at_v = slice_get-get_or old i w inside in
      let was = all.each i v at_v in
      let same = (on i v w at_v at).0 in
      (same.ledger ∙ was.0, same.terms ∙ was.1, same.number ∙ was.2);
}
