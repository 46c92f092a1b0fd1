-- What was appended, what waits on the places, and what is left to open.
use Rattle.std.proofs.Common.{◌≡◌, ◌+◌, ◌≤◌, ◌++◌, true, length, min, vec_len, vec_capacity}
use Rattle.container_core.specs.Chunks.{body_length, chunk_count, sealed_chunks}
use Rattle.container_core.specs.Opening.{behind, unsealed_by}
use Rattle.worker_core.specs.declared.round.Task.TheVariants.{Opening}
use Rattle.worker_core.specs.Answer.{joined}
use Rattle.crew_core.specs.Rounds.{CanMake, round_count}
use Rattle.crew_core.proofs.rounds.open_in_rounds.Given as goal

abbrev pub invariant-rounds : goal.invariant-rounds
invariant-rounds g l = record {
  done : unsealed_by l.key l.header 0 true (sealed_chunks l.fn.cut.size l.body)
      ≡ behind (l.out.items ++ joined l.rooms.places.values) (unsealed_by l.key l.header l.number true (sealed_chunks l.fn.cut.size l.rest));
  fits : vec_len l.out + (length (joined l.rooms.places.values) + l.plain) ≤ vec_capacity l.out;
  rest : length l.rest ≡ body_length l.fn.cut.size l.plain;
  numbers : l.number + chunk_count l.fn.cut.size l.plain ≤ 4294967296;
  ready : CanMake Opening l.fn.cut.size (min (round_count l.fn.cut.size) (chunk_count l.fn.cut.size l.plain)) l.rooms.crew l.rooms.places;
}

abbrev pub decreases-rounds : goal.decreases-rounds
decreases-rounds g l = l.plain
