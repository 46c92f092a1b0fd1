-- What was appended, what waits on the places, and what is left to seal.
use Rattle.std.proofs.Common.{◌≡◌, ◌+◌, ◌≤◌, ◌++◌, length, min, vec_len, vec_capacity}
use Rattle.container_core.specs.Chunks.{body_length, chunk_count, chunks}
use Rattle.container_core.specs.Container.{size_in}
use Rattle.container_core.specs.Stream.{stream_by}
use Rattle.worker_core.specs.declared.round.Task.TheVariants.{Sealing}
use Rattle.worker_core.specs.Answer.{joined}
use Rattle.crew_core.specs.Rounds.{CanMake, round_count}
use Rattle.crew_core.proofs.rounds.seal_rounds.Given as goal

abbrev pub invariant-rounds : goal.invariant-rounds
invariant-rounds g l = record {
  done : (l.out.items ++ joined l.rooms.places.values) ++ stream_by l.key l.header l.number l.last (chunks (size_in l.header) l.rest)
      ≡ l.fn.out.items ++ stream_by l.key l.header l.first l.last (chunks (size_in l.header) l.plain);
  fits : vec_len l.out + (length (joined l.rooms.places.values) + body_length (size_in l.header) (length l.rest)) ≤ vec_capacity l.out;
  few : length l.rest ≤ 1099511627776;
  numbers : l.number + chunk_count (size_in l.header) (length l.rest) ≤ 4294967296;
  ready : CanMake Sealing (size_in l.header) (min (round_count (size_in l.header)) (chunk_count (size_in l.header) (length l.rest))) l.rooms.crew l.rooms.places;
}

abbrev pub decreases-rounds : goal.decreases-rounds
decreases-rounds g l = length l.rest
