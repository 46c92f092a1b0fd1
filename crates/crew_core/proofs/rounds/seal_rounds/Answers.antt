use Rattle.std.proofs.Common.{◌≡◌, ◌+◌, ◌*◌, ◌<◌, ◌≤◌, ◌++◌, false, List, ℕ, length, subst, sym, ap, ◌∙◌, arith, length-append}
use Rattle.container_core.specs.Chunks.{chunks, chunk_count}
use Rattle.container_core.specs.Container.{size_in}
use Rattle.container_core.specs.Stream.{stream_by}
use Rattle.container_core.proofs.PartsLemmas.{count-some}
use Rattle.worker_core.specs.declared.round.Task.TheVariants.{Sealing}
use Rattle.worker_core.specs.Answer.{joined}
use Rattle.worker_core.specs.Values.{values_of}
use Rattle.worker_core.specs.Views.{RoundView}
use Rattle.crew_core.specs.Rounds.{CanMake, round_count}
use Rattle.crew_core.proofs.RoundLemmas.{can-less, count-within, sealed-next}
use Rattle.crew_core.proofs.rounds.seal_rounds.Goals as goal

pub overflow_add-number : goal.overflow_add-number
overflow_add-number g c =
    let size = size_in c.args.header.now in
    let sized : c.chunk-size.result ≡ size = c.chunk-size.ensures.value in
    let more = count-some size (length c.split_plain.result.1.now) in
    let counted : chunk_count size (length c.rounds.rest.now) ≡ c.chunks_of_round-count.result + chunk_count size (length c.split_plain.result.1.now) =
    subst (λ (s : ℕ). chunk_count s (length c.rounds.rest.now) ≡ c.chunks_of_round-count.result + chunk_count s (length c.split_plain.result.1.now)) sized c.split_plain.ensures.counted in
    omega (arith, c.rounds.invariant.numbers, counted, more)

pub make_and_append-requires-2-clause-ready : goal.make_and_append-requires-2-clause-ready
make_and_append-requires-2-clause-ready g c κs within =
    let key = c.args.key.now in
    let header = c.args.header.now in
    let size = size_in header in
    let rest = c.rounds.rest.now in
    let round = c.chunks_of_round-count.result in
    let sized : c.chunk-size.result ≡ size = c.chunk-size.ensures.value in
    let same : round ≡ round_count size = c.chunks_of_round-count.ensures.value ∙ ap round_count sized in
    let step : round * c.chunk-size.result ≡ round * size = ap (λ s. round * s) sized in
    let few : chunk_count size (length rest) ≤ round =
    count-within size round (length rest) (omega (arith, sized, c.chunk-size.ensures.least)) c.chunks_of_round-count.ensures.some
    (omega (arith, step, c.rounds-test.false)) in
    let count : length (values_of Sealing key header c.rounds.number c.args.last rest) ≡ chunk_count size (length rest) =
    c.pieces_by_number.ensures.count Sealing key header c.rounds.number c.args.last rest ∙ c.chunks_by_number.ensures.count size rest in
    subst (λ (r : RoundView). CanMake r.task r.size (length r.values) c.rounds.rooms.crew c.rounds.rooms.places) (sym c.new-round.ensures)
    (can-less Sealing size _ _ _ _ (omega (arith, count, few, same)) c.rounds.invariant.ready)

pub rounds-preserved : goal.rounds-preserved
rounds-preserved g c =
    let before = c.rounds.invariant in
    let key = c.args.key.now in
    let header = c.args.header.now in
    let size = size_in header in
    let round = c.chunks_of_round-count.result in
    let number = c.rounds.number in
    let last = c.args.last in
    let rest = c.rounds.rest.now in
    let bytes = c.split_plain.result.0.now in
    let more = c.split_plain.result.1.now in
    let values = c.make_and_append.new.rooms.places.values in
    let sized : c.chunk-size.result ≡ size = c.chunk-size.ensures.value in
    let some : 0 < size = omega (arith, sized, c.chunk-size.ensures.least) in
    let full : length bytes ≡ round * size = c.split_plain.ensures.whole ∙ ap (λ s. round * s) sized in
    let counted : chunk_count size (length rest) ≡ round + chunk_count size (length more) =
    subst (λ (s : ℕ). chunk_count s (length rest) ≡ round + chunk_count s (length more)) sized c.split_plain.ensures.counted in
    let all : length rest ≡ length bytes + length more = ap (λ (l : List ℕ). length l) c.split_plain.ensures.parts ∙ length-append bytes more in
    let body = stream_by key header number false (chunks size bytes) in
    let behind = stream_by key header (number + round) last (chunks size more) in
    let is : values ≡ values_of Sealing key header number false bytes =
    c.make_and_append.ensures.values ∙ ap (λ (r : RoundView). r.values) c.whole_round-round.ensures.round in
    let made : joined values ≡ body = ap joined is ∙ c.rounds_are_sealed.ensures.joined key header number false bytes in
    let parts : stream_by key header number last (chunks size rest) ≡ body ++ behind =
    ap (λ (l : List ℕ). stream_by key header number last (chunks size l)) c.split_plain.ensures.parts
    ∙ c.rounds_of_a_stream.ensures.bytes key header size number last bytes more round some full c.chunks_of_round-count.ensures.some c.split_plain.ensures.more in
    let long = ap (λ (l : List ℕ). length l) made ∙ c.rounds_of_a_stream.ensures.length key header size number false bytes some in
    let both = ap (λ (l : List ℕ). length l) parts ∙ length-append body behind in
    let front = c.rounds_of_a_stream.ensures.length key header size number last rest some in
    let back = c.rounds_of_a_stream.ensures.length key header size (number + round) last more some in
    let waits = c.rounds.out.items ++ joined c.rounds.rooms.places.values in
    let items = c.make_and_append.ensures.items in
    let grown : length c.make_and_append.new.out.items ≡ length c.rounds.out.items + length (joined c.rounds.rooms.places.values) =
    ap (λ (l : List ℕ). length l) items ∙ length-append c.rounds.out.items (joined c.rounds.rooms.places.values) in
    record {
      done = sealed-next waits c.make_and_append.new.out.items body behind (stream_by key header number last (chunks size rest)) (joined values)
          (c.args.out.now.items ++ stream_by key header c.args.first last (chunks size c.args.plain.now)) items made parts before.done;
      fits = omega (arith, before.fits, c.make_and_append.ensures.room, grown, long, both, front, back, c.rounds.out.ok.0, c.make_and_append.new.out.ok.0, made);
      few = omega (arith, before.few, all);
      numbers = omega (arith, before.numbers, counted);
      ready = c.make_and_append.ensures.ready Sealing size _ (can-less Sealing size _ _ _ _ (omega (arith, counted)) before.ready);
    }
