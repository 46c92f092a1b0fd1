use Rattle.std.proofs.Common.{◌≡◌, []}
use Rattle.ledger_core.proofs.Meetings.{AreOnWay}
use Rattle.ledger_core.proofs.meeting.round.Given as goal

abbrev pub invariant-loop-seat : goal.invariant-loop-seat
invariant-loop-seat l = (l.note.table_id ≡ l.initial.note.table_id) × (l.note.me.1 ≡ []) × AreOnWay l.initial.note.me.0.seen l.note.me.0.seen l.seat-index l.initial.seats l.seats
