-- What was read, what of it opened, what of that waits to be taken, and the current round.
use Rattle.std.proofs.Common.{◌≡◌, ℕ, ◌+◌, ◌-◌, ◌*◌, ◌<◌, ◌≤◌, ◌++◌, false, List, [], Option, length, min, Ok}
use Rattle.container_core.specs.Chunks.{sealed_chunks}
use Rattle.container_core.specs.Container.{size_in}
use Rattle.container_core.specs.Opening.{unsealed_by}
use Rattle.io_core.specs.Streams.{Consumes, IsAtEnd}
use Rattle.worker_core.specs.Answer.{joined}
use Rattle.worker_core.specs.declared.round.Task.TheVariants.{Opening}
use Rattle.opening_core.specs.Windows.{IsReady}
use Rattle.opening_core.proofs.OpeningRounds.{OpensBehind}
use Rattle.opening_core.proofs.SentLemmas.{Sent}
use Rattle.opening_core.proofs.windows.open_begun.Given as goal

abbrev pub invariant-rounds : goal.invariant-rounds
invariant-rounds g l = record {
  past : List ℕ;
  plain : List ℕ;
  consumed : (left : Option (List ℕ)) → Consumes left (g.R.Source.left l.fn.reader) l.fn.rooms.current.held → Consumes left (g.R.Source.left l.reader) (past ++ l.rooms.current.held);
  opens : OpensBehind l.context.key.now l.context.header.now l.first past plain;
  kept : l.context.task ≡ Opening → Sent (g.O.Taking.bytes l.fn.out) (g.O.Taking.bytes l.out) plain (joined l.rooms.places.values);
  none : l.first ≡ 0 → plain ≡ [];
  checks : 0 < l.first → unsealed_by l.context.key.now l.context.header.now 0 false (sealed_chunks (size_in l.context.header.now) past) ≡ Ok plain;
  bound : g.O.Taking.bound l.out ≡ g.O.Taking.bound l.fn.out;
  writes : g.O.Taking.failures l.out ≡ g.O.Taking.failures l.fn.out;
  long : length past ≡ l.first * (size_in l.context.header.now + 16);
  total : (l.total ≡ length l.context.header.now + (l.first * (size_in l.context.header.now + 16) + length l.rooms.current.held)) × (l.total ≤ l.limit);
  held : length l.rooms.current.held ≤ l.context.window * (size_in l.context.header.now + 16) + 1;
  end : l.total < l.limit → length l.rooms.current.held ≤ l.context.window * (size_in l.context.header.now + 16) → IsAtEnd (g.R.Source.left l.reader);
  some : 0 < l.first → 0 < length l.rooms.current.held;
  room : (l.context.window * (size_in l.context.header.now + 16) + 1 ≤ l.rooms.current.room) × (l.context.window * (size_in l.context.header.now + 16) < length l.rooms.current.held → l.context.window * (size_in l.context.header.now + 16) + 1 ≤ l.rooms.next.room);
  ready : IsReady l.context.task (size_in l.context.header.now) (min (l.context.window * (size_in l.context.header.now + 16)) (length l.rooms.current.held)) l.rooms.crew l.rooms.places;
  count : g.R.Source.failures l.reader ≡ g.R.Source.failures l.fn.reader;
}

abbrev pub decreases-rounds : goal.decreases-rounds
decreases-rounds g l = 2 * (l.limit - l.total) + length l.rooms.current.held
