use Rattle.std.proofs.Common.{rules, ◌≡◌, ℕ, ◌+◌, ◌<◌, ◌≤◌, eqb, List, [], ◌++◌, length, get_or, drop, ap, sym, ◌∙◌}
use Rattle.std.proofs.Common.{refl, subst, arith, length-append}
use Rattle.container_core.specs.Chunks.{chunks, chunk_count}
use Rattle.container_core.specs.Shape.{size_of}
use Rattle.container_core.specs.Stream.{sealed_chunk, stream}
use Rattle.container_core.specs.Container.{container, header_of, size_in}
use Rattle.container_core.proofs.PartsLemmas.{length-chunks}
use Rattle.container_core.proofs.HeaderLemmas.{length-header_of, size-header_of}
use Rattle.container_core.proofs.OpeningLemmas.{container-header, length-container, room_for_sealed, sealed_more}
use Rattle.container_core.proofs.OpeningLemmas.{sealed_all}
use Rattle.container_core.proofs.whole.seal_into.Goals as goal

pub loop-number-init : goal.loop-number-init
loop-number-init c =
    let key = c.args.key.now in
    let plain = c.args.plain.now in
    let shape = c.args.shape.now in
    let front = c.args.out.now.items in
    let seven : length c.args.prefix ≡ 7 = search rules in
    let long = length-container key c.args.prefix plain shape seven in
    let both = length-append front (container key shape c.args.prefix plain) in
    record {
      left = container-header key c.args.prefix plain c.of-header.result c.append.new.out.items front shape (size_of shape) refl
          c.of-header.ensures.header (c.append.ensures.items ∙ ap (λ (b : List ℕ). front ++ b) c.bytes.ensures.bytes);
      room = omega (arith, c.args.out.now.ok.0, c.requires.room, c.append.ensures.room, long, both);
      capacity = c.append.ensures.room;
    }

pub append_sealed-requires-clause-room : goal.append_sealed-requires-clause-room
append_sealed-requires-clause-room c =
    let size = size_of c.args.shape.now in
    let cs = chunks size c.args.plain.now in
    let sized : c.of-cut.result.size ≡ size = c.of-cut.ensures.size ∙ ap (λ (h : List ℕ). size_in h) c.of-header.ensures.header
    ∙ size-header_of c.args.key.now c.args.prefix c.args.shape.now in
    let count : c.count-count.result ≡ length cs =
    c.count-count.ensures.count ∙ ap (λ (s : ℕ). chunk_count s c.of-cut.result.plain) sized
    ∙ ap (λ (n : ℕ). chunk_count size n) c.of-cut.ensures.plain ∙ sym (length-chunks size c.args.plain.now) in
    let below : c.loop-number.number < length cs = subst (λ (n : ℕ). c.loop-number.number < n) count c.loop-number-test.true in
    let room = room_for_sealed c.args.key.now c.of-header.result c.loop-number.number cs c.loop-number.out.items
    (c.args.out.now.items ++ container c.args.key.now c.args.shape.now c.args.prefix c.args.plain.now) below c.loop-number.invariant.left in
    let same : length c.chunk_of-chunk.result.now ≡ length (get_or cs c.loop-number.number []) =
    ap (λ (l : List ℕ). length l) (c.chunk_of-chunk.ensures.chunk ∙ ap (λ (s : ℕ). get_or (chunks s c.args.plain.now) c.loop-number.number []) sized) in
    omega (arith, c.loop-number.out.ok.0, c.loop-number.invariant.room, room, same)

pub loop-number-preserved : goal.loop-number-preserved
loop-number-preserved c =
    let key = c.args.key.now in
    let size = size_of c.args.shape.now in
    let header = c.of-header.result in
    let number = c.loop-number.number in
    let out = c.loop-number.out.items in
    let cs = chunks size c.args.plain.now in
    let more = stream key header (number + 1) (drop (number + 1) cs) in
    let sized : c.of-cut.result.size ≡ size = c.of-cut.ensures.size ∙ ap (λ (h : List ℕ). size_in h) c.of-header.ensures.header
    ∙ size-header_of c.args.key.now c.args.prefix c.args.shape.now in
    let count : c.count-count.result ≡ length cs =
    c.count-count.ensures.count ∙ ap (λ (s : ℕ). chunk_count s c.of-cut.result.plain) sized
    ∙ ap (λ (n : ℕ). chunk_count size n) c.of-cut.ensures.plain ∙ sym (length-chunks size c.args.plain.now) in
    let below : number < length cs = subst (λ (n : ℕ). number < n) count c.loop-number-test.true in
    record {
      left = ap (λ (o : List ℕ). o ++ more) c.append_sealed.ensures.sealed
          ∙ ap (λ (n : ℕ). (out ++ sealed_chunk key header number (eqb (number + 1) n) c.chunk_of-chunk.result.now) ++ more) count
          ∙ ap (λ (s : List ℕ). (out ++ sealed_chunk key header number (eqb (number + 1) (length cs)) s) ++ more)
          (c.chunk_of-chunk.ensures.chunk ∙ ap (λ (s : ℕ). get_or (chunks s c.args.plain.now) number []) sized)
          ∙ sealed_more key header number cs out (c.args.out.now.items ++ container key c.args.shape.now c.args.prefix c.args.plain.now) below c.loop-number.invariant.left;
      room = omega (arith, c.loop-number.invariant.room, c.append_sealed.ensures.capacity);
      capacity = omega (arith, c.loop-number.invariant.capacity, c.append_sealed.ensures.capacity);
    }

pub returns-clause-capacity : goal.returns-clause-capacity
returns-clause-capacity c = c.loop-number.invariant.capacity

pub returns-clause-container : goal.returns-clause-container
returns-clause-container c =
    let size = size_of c.args.shape.now in
    let cs = chunks size c.args.plain.now in
    let sized : c.of-cut.result.size ≡ size = c.of-cut.ensures.size ∙ ap (λ (h : List ℕ). size_in h) c.of-header.ensures.header
    ∙ size-header_of c.args.key.now c.args.prefix c.args.shape.now in
    let count : c.count-count.result ≡ length cs =
    c.count-count.ensures.count ∙ ap (λ (s : ℕ). chunk_count s c.of-cut.result.plain) sized
    ∙ ap (λ (n : ℕ). chunk_count size n) c.of-cut.ensures.plain ∙ sym (length-chunks size c.args.plain.now) in
    let over : length cs ≤ c.loop-number.number = subst (λ (n : ℕ). n ≤ c.loop-number.number) count c.loop-number-test.false in
    sealed_all c.args.key.now c.of-header.result c.loop-number.number cs c.loop-number.out.items
    (c.args.out.now.items ++ container c.args.key.now c.args.shape.now c.args.prefix c.args.plain.now) over c.loop-number.invariant.left

pub append-requires : goal.append-requires
append-requires c =
    let seven : length c.args.prefix ≡ 7 = search rules in
    let long = length-header_of c.args.key.now c.args.prefix c.args.shape.now seven in
    let header : length c.bytes.result.now ≡ length (header_of c.args.key.now c.args.shape.now c.args.prefix) =
    ap (λ (l : List ℕ). length l) (c.bytes.ensures.bytes ∙ c.of-header.ensures.header) in
    omega (arith, c.requires.room, long, header)
