use Rattle.std.proofs.Common.{◌≡◌, ◌+◌, ◌*◌, ◌-◌, ◌<◌, ◌≤◌, ◌++◌, true, false, min, [], List, ℕ, Option, Ok, Err, length, ap, sym, ◌∙◌, subst, arith, length-append}
use Rattle.container_core.specs.declared.fault.OpenFault.TheVariants.{Forged}
use Rattle.container_core.specs.Chunks.{sealed_chunks, body_length, chunk_count}
use Rattle.container_core.specs.Container.{size_in}
use Rattle.container_core.specs.Opening.{behind, unsealed_by}
use Rattle.container_core.proofs.OpeningLemmas.{behind-nil}
use Rattle.container_core.proofs.PartsLemmas.{container_length-grows, count-numbers, count-some}
use Rattle.worker_core.specs.declared.round.Task.TheVariants.{Opening}
use Rattle.worker_core.specs.Answer.{answer, joined, named}
use Rattle.worker_core.specs.Values.{round_of, values_of}
use Rattle.worker_core.specs.Views.{RoundView}
use Rattle.crew_core.specs.Rounds.{CanMake, round_count}
use Rattle.crew_core.proofs.RoundLemmas.{can-less, opened-next, opened-not, round-body, sealed-within}
use Rattle.crew_core.proofs.rounds.open_in_rounds.Goals as goal

pub rounds-init : goal.rounds-init
rounds-init g c =
    let key = c.args.key.now in
    let header = c.args.header.now in
    let size = c.args.cut.size in
    let body = c.args.body.now in
    let whole = unsealed_by key header 0 true (sealed_chunks size body) in
    let nothing : c.args.out.now.items ++ joined c.args.rooms.places.values ≡ [] =
    ap (λ (v : List (Option (List ℕ))). c.args.out.now.items ++ joined v) c.requires.empty.0
    ∙ ap (λ (l : List ℕ). l ++ []) c.requires.empty.1 in
    let none : length (joined c.args.rooms.places.values) ≡ 0 = ap (λ (v : List (Option (List ℕ))). length (joined v)) c.requires.empty.0 in
    let out : length c.args.out.now.items ≡ 0 = ap (λ (l : List ℕ). length l) c.requires.empty.1 in
    record {
      done = sym (ap (λ (l : List ℕ). behind l whole) nothing ∙ behind-nil whole);
      fits = omega (arith, none, out, c.args.out.now.ok.0, c.requires.room, c.plain-plain.ensures);
      rest = c.requires.body ∙ ap (λ (n : ℕ). body_length size n) (sym c.plain-plain.ensures);
      numbers = let few = count-numbers size c.args.cut.plain (omega (arith, c.requires.size, c.chunk-size.ensures.value, c.chunk-size.ensures.least)) c.requires.plain in
          let same : chunk_count size c.plain-plain.result ≡ chunk_count size c.args.cut.plain = ap (λ (n : ℕ). chunk_count size n) c.plain-plain.ensures in
          omega (arith, few, same);
      ready = subst (λ (n : ℕ). CanMake Opening size (min (round_count size) (chunk_count size n)) c.args.rooms.crew c.args.rooms.places)
          (sym c.plain-plain.ensures) c.requires.ready;
    }

pub overflow_add-number : goal.overflow_add-number
overflow_add-number g c =
    let size = c.args.cut.size in
    let sized : c.chunk-size.result ≡ size = c.chunk-size.ensures.value ∙ sym c.requires.size in
    let round = c.chunks_of_round-count.result in
    let counted : chunk_count size c.rounds.plain ≡ round + chunk_count size (c.rounds.plain - round * size) =
    subst (λ (s : ℕ). chunk_count s c.rounds.plain ≡ round + chunk_count s (c.rounds.plain - round * s)) sized c.split_sealed.ensures.counted in
    let more = count-some size (c.rounds.plain - round * size) in
    omega (arith, c.rounds.invariant.numbers, counted, more)

-- the last round is no longer than a full one
pub of-cut-requires : goal.of-cut-requires
of-cut-requires g c =
    let size = c.args.cut.size in
    let round = c.chunks_of_round-count.result in
    let sized : c.chunk-size.result ≡ size = c.chunk-size.ensures.value ∙ sym c.requires.size in
    let some : 0 < size = omega (arith, sized, c.chunk-size.ensures.least) in
    let step : round * (c.chunk-size.result + 16) ≡ round * (size + 16) = ap (λ s. round * (s + 16)) sized in
    let full = round-body size round some c.chunks_of_round-count.ensures.some in
    let less = container_length-grows 0 size (round * size) c.rounds.plain some
    (omega (arith, step, full, c.rounds-test.false, c.rounds.invariant.rest)) in
    let bytes : round * c.chunk-size.result ≡ round * size = ap (λ s. round * s) sized in
    omega (arith, less, bytes, c.chunks_of_round-count.ensures.bytes)

pub make_and_append-requires-2-clause-ready : goal.make_and_append-requires-2-clause-ready
make_and_append-requires-2-clause-ready g c κs within =
    let key = c.args.key.now in
    let header = c.args.header.now in
    let size = c.args.cut.size in
    let rest = c.rounds.rest.now in
    let round = c.chunks_of_round-count.result in
    let sized : c.chunk-size.result ≡ size = c.chunk-size.ensures.value ∙ sym c.requires.size in
    let some : 0 < size = omega (arith, sized, c.chunk-size.ensures.least) in
    let same : round ≡ round_count size = c.chunks_of_round-count.ensures.value ∙ ap round_count sized in
    let step : round * (c.chunk-size.result + 16) ≡ round * (size + 16) = ap (λ s. round * (s + 16)) sized in
    let few : chunk_count size c.rounds.plain ≤ round =
    sealed-within size round c.rounds.plain some c.chunks_of_round-count.ensures.some
    (omega (arith, step, c.rounds-test.false, c.rounds.invariant.rest)) in
    let count : length (values_of Opening key header c.rounds.number true rest) ≡ chunk_count size c.rounds.plain =
    c.pieces_by_number.ensures.count Opening key header c.rounds.number true rest
    ∙ ap (λ (s : ℕ). length (sealed_chunks s rest)) (sym c.requires.size)
    ∙ c.chunks_by_number.ensures.sealed_count size rest c.rounds.plain some c.rounds.invariant.rest in
    let view : round_of Opening key header c.rounds.number true rest ≡ c.new-round.result = sym c.new-round.ensures in
    let can : CanMake Opening (size_in header) (length (values_of Opening key header c.rounds.number true rest)) c.rounds.rooms.crew c.rounds.rooms.places =
    subst (λ (s : ℕ). CanMake Opening s (length (values_of Opening key header c.rounds.number true rest)) c.rounds.rooms.crew c.rounds.rooms.places) c.requires.size
    (can-less Opening size _ _ _ _ (omega (arith, count, few, same)) c.rounds.invariant.ready) in
    subst (λ (r : RoundView). CanMake r.task r.size (length r.values) c.rounds.rooms.crew c.rounds.rooms.places) view can

pub append_pieces-requires : goal.append_pieces-requires
append_pieces-requires g c =
    let before = c.rounds.invariant in
    let key = c.args.key.now in
    let header = c.args.header.now in
    let size = c.args.cut.size in
    let number = c.rounds.number in
    let rest = c.rounds.rest.now in
    let values = c.make_and_append-2.new.rooms.places.values in
    let sized : c.chunk-size.result ≡ size = c.chunk-size.ensures.value ∙ sym c.requires.size in
    let some : 0 < size = omega (arith, sized, c.chunk-size.ensures.least) in
    let is : values ≡ values_of Opening key header number true rest =
    c.make_and_append-2.ensures.values ∙ ap (λ (r : RoundView). r.values) c.new-round.ensures in
    let opens : unsealed_by key header number true (sealed_chunks size rest) ≡ Ok (joined values) =
    ap (λ (s : ℕ). unsealed_by key header number true (sealed_chunks s rest)) c.requires.size
    ∙ sym (c.rounds_are_opened.ensures key header number true rest)
    ∙ ap (λ (v : List (Option (List ℕ))). named number (answer v)) (sym is) ∙ c.in-Ok-all_checked.ensures.ok in
    let long : length (joined values) ≡ c.rounds.plain = c.rounds_open.ensures.length key header size number true rest (joined values) c.rounds.plain some before.rest opens in
    let grown : length c.make_and_append-2.new.out.items ≡ length c.rounds.out.items + length (joined c.rounds.rooms.places.values) =
    ap (λ (l : List ℕ). length l) c.make_and_append-2.ensures.items ∙ length-append c.rounds.out.items (joined c.rounds.rooms.places.values) in
    record { room = omega (arith, before.fits, c.make_and_append-2.ensures.room, grown, long, c.rounds.out.ok.0, c.make_and_append-2.new.out.ok.0) }

pub returns-in-Err-clause-refused : goal.returns-in-Err-clause-refused
returns-in-Err-clause-refused g c =
    let before = c.rounds.invariant in
    let key = c.args.key.now in
    let header = c.args.header.now in
    let size = c.args.cut.size in
    let number = c.rounds.number in
    let rest = c.rounds.rest.now in
    let bytes = c.split_sealed.result.0.now in
    let more = c.split_sealed.result.1.now in
    let round = c.chunks_of_round-count.result in
    let sized : c.chunk-size.result ≡ size = c.chunk-size.ensures.value ∙ sym c.requires.size in
    let full : length bytes ≡ round * (size + 16) = c.split_sealed.ensures.whole ∙ ap (λ s. round * (s + 16)) sized in
    let values : c.make_and_append.new.rooms.places.values ≡ values_of Opening key header number false bytes =
    c.make_and_append.ensures.values ∙ ap (λ (r : RoundView). r.values) c.whole_round-round.ensures.round in
    let refused : unsealed_by key header number false (sealed_chunks size bytes) ≡ Err (Forged c.in-Err.chunk) =
    ap (λ (s : ℕ). unsealed_by key header number false (sealed_chunks s bytes)) c.requires.size
    ∙ sym (c.rounds_are_opened.ensures key header number false bytes)
    ∙ ap (λ (v : List (Option (List ℕ))). named number (answer v)) (sym values) ∙ c.in-Err.ensures.err in
    opened-not (c.rounds.out.items ++ joined c.rounds.rooms.places.values) (Forged c.in-Err.chunk) (unsealed_by key header number true (sealed_chunks size rest))
    (unsealed_by key header 0 true (sealed_chunks size c.args.body.now))
    (ap (λ (l : List ℕ). unsealed_by key header number true (sealed_chunks size l)) c.split_sealed.ensures.parts
    ∙ c.rounds_open.ensures.refused key header size number true bytes more round (Forged c.in-Err.chunk) full c.chunks_of_round-count.ensures.some c.split_sealed.ensures.more refused)
    before.done

pub rounds-preserved : goal.rounds-preserved
rounds-preserved g c =
    let before = c.rounds.invariant in
    let key = c.args.key.now in
    let header = c.args.header.now in
    let size = c.args.cut.size in
    let number = c.rounds.number in
    let rest = c.rounds.rest.now in
    let bytes = c.split_sealed.result.0.now in
    let more = c.split_sealed.result.1.now in
    let round = c.chunks_of_round-count.result in
    let values = c.make_and_append.new.rooms.places.values in
    let left = c.rounds.plain - round * size in
    let sized : c.chunk-size.result ≡ size = c.chunk-size.ensures.value ∙ sym c.requires.size in
    let some : 0 < size = omega (arith, sized, c.chunk-size.ensures.least) in
    let step : round * c.chunk-size.result ≡ round * size = ap (λ s. round * s) sized in
    let full : length bytes ≡ round * (size + 16) = c.split_sealed.ensures.whole ∙ ap (λ s. round * (s + 16)) sized in
    let whole : length bytes ≡ body_length size (round * size) =
    c.split_sealed.ensures.round ∙ ap (λ s. body_length s (round * s)) sized in
    let fits : round * size < c.rounds.plain = omega (arith, step, c.split_sealed.ensures.fits) in
    let counted : chunk_count size c.rounds.plain ≡ round + chunk_count size left =
    subst (λ (s : ℕ). chunk_count s c.rounds.plain ≡ round + chunk_count s (c.rounds.plain - round * s)) sized c.split_sealed.ensures.counted in
    let behind_it : length more ≡ body_length size left =
    subst (λ (s : ℕ). length more ≡ body_length s (c.rounds.plain - round * s)) sized c.split_sealed.ensures.left in
    let less : c.rounds.plain - round * c.chunk-size.result ≡ left = ap (λ s. c.rounds.plain - round * s) sized in
    let is : values ≡ values_of Opening key header number false bytes =
    c.make_and_append.ensures.values ∙ ap (λ (r : RoundView). r.values) c.whole_round-round.ensures.round in
    let opens : unsealed_by key header number false (sealed_chunks size bytes) ≡ Ok (joined values) =
    ap (λ (s : ℕ). unsealed_by key header number false (sealed_chunks s bytes)) c.requires.size
    ∙ sym (c.rounds_are_opened.ensures key header number false bytes)
    ∙ ap (λ (v : List (Option (List ℕ))). named number (answer v)) (sym is) ∙ c.in-Ok.ensures.ok in
    let next = unsealed_by key header (number + round) true (sealed_chunks size more) in
    let parts : unsealed_by key header number true (sealed_chunks size rest) ≡ behind (joined values) next =
    ap (λ (l : List ℕ). unsealed_by key header number true (sealed_chunks size l)) c.split_sealed.ensures.parts
    ∙ c.rounds_open.ensures.opened key header size number true bytes more (joined values) round full c.chunks_of_round-count.ensures.some c.split_sealed.ensures.more opens in
    let long : length (joined values) ≡ round * size =
    c.rounds_open.ensures.length key header size number false bytes (joined values) (round * size) some whole opens in
    let items = c.make_and_append.ensures.items in
    let grown : length c.make_and_append.new.out.items ≡ length c.rounds.out.items + length (joined c.rounds.rooms.places.values) =
    ap (λ (l : List ℕ). length l) items ∙ length-append c.rounds.out.items (joined c.rounds.rooms.places.values) in
    record {
      done = opened-next (c.rounds.out.items ++ joined c.rounds.rooms.places.values) c.make_and_append.new.out.items (joined values) next
          (unsealed_by key header number true (sealed_chunks size rest)) _ items parts before.done;
      fits = omega (arith, before.fits, c.make_and_append.ensures.room, grown, long, fits, less, c.rounds.out.ok.0, c.make_and_append.new.out.ok.0);
      rest = behind_it ∙ ap (λ (n : ℕ). body_length size n) (sym less);
      numbers = let same : chunk_count size (c.rounds.plain - round * c.chunk-size.result) ≡ chunk_count size left = ap (λ (n : ℕ). chunk_count size n) less in
          omega (arith, before.numbers, counted, same);
      ready = c.make_and_append.ensures.ready Opening size _
          (let same : chunk_count size (c.rounds.plain - round * c.chunk-size.result) ≡ chunk_count size left = ap (λ (n : ℕ). chunk_count size n) less in
          can-less Opening size _ _ _ _ (omega (arith, counted, same)) before.ready);
    }
