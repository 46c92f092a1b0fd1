-- The values of a work by their numbers.
use Rattle.std.proofs.Common.{◌≡◌, ℕ, ◌+◌, ◌-◌, ◌*◌, ◌<◌, ◌≤◌, ◌&&◌, Bool, eqb, true, List, [], length, get_or, drop, min, ap, sym, ◌∙◌}
use Rattle.std.proofs.Common.{arith, None, Some, unwrap_or, zero-add}
use Rattle.std.proofs.Math.Bool.{and-true}
use Rattle.std.proofs.lemmas.List.{length-take, length-drop}
use Rattle.container_core.specs.Chunks.{chunk_count}
use Rattle.container_core.specs.Container.{size_in}
use Rattle.container_core.specs.Views.{CutView}
use Rattle.container_core.proofs.OpeningLemmas.{some_size}
use Rattle.container_core.proofs.StreamLemmas.{length-sealed_chunk, sealed_chunk-opened_chunk}
use Rattle.container_core.proofs.PartsLemmas.{get_or-chunks, get_or-sealed_chunks}
use Rattle.container_core.proofs.PartsLemmas.{body-count, count-below, count-enough, count-some, chunk_bytes}
use Rattle.worker_core.specs.Parts.{body_bytes, part_size, room_of}
use Rattle.worker_core.specs.Values.{parts_of, value_at}
use Rattle.worker_core.proofs.ValueLemmas.{length-parts_of, length-values, get_or-values}
use Rattle.piece_core.specs.declared.work.Kind.{Kind}
use Rattle.piece_core.specs.declared.work.Kind.TheVariants.{Sealing, Opening}
use Rattle.piece_core.specs.Values.{task_of, work_values}
use Rattle.piece_core.specs.Parts.{piece_bytes, pieces_sum, most_plain, IsCut}

-- each value is of its part
pub get_or-work_values : (kind : Kind) (key header body : List ℕ) (n : ℕ) → n < length (parts_of (task_of kind) (size_in header) body)
    → get_or (work_values kind key header body) n None
    ≡ value_at (task_of kind) key header n (eqb (n + 1) (length (parts_of (task_of kind) (size_in header) body)))
    (get_or (parts_of (task_of kind) (size_in header) body) n [])
get_or-work_values kind key header body n at =
    let parts = parts_of (task_of kind) (size_in header) body in
    get_or-values (task_of kind) key header 0 true body n at
    ∙ ap (λ k. value_at (task_of kind) key header k (eqb (n + 1) (length parts) && true) (get_or parts n [])) (zero-add n)
    ∙ ap (λ last. value_at (task_of kind) key header n last (get_or parts n [])) (and-true (eqb (n + 1) (length parts)))

-- the chunks that a header names aren't empty
some_bytes : (header : List ℕ) (size : ℕ) → size ≡ size_in header → 0 < size
some_bytes header size e = omega (arith, e, some_size header)

-- as many values as chunks
pub length-work_values : (kind : Kind) (key header : List ℕ) (cut : CutView) (body : List ℕ) → IsCut kind header cut body
    → length (work_values kind key header body) ≡ chunk_count cut.size cut.plain
length-work_values kind key header cut body is =
    length-values (task_of kind) key header 0 true body ∙ ap (λ size. length (parts_of (task_of kind) size body)) (sym is.size)
    ∙ length-parts_of (task_of kind) cut.size cut.plain body (some_bytes header cut.size is.size) is.bytes

-- how many bytes the part of this number has
length-part : (kind : Kind) (size plain : ℕ) (body : List ℕ) (n : ℕ) → 0 < size → length body ≡ body_bytes (task_of kind) size plain
    → n < chunk_count size plain
    → length (get_or (parts_of (task_of kind) size body) n [])
    ≡ min (part_size (task_of kind) size) (length body - n * part_size (task_of kind) size)
length-part Sealing size plain body n some bytes at =
    ap (λ p. length p) (get_or-chunks size body n [] some (rw bytes at)) ∙ length-take size (drop (n * size) body)
    ∙ ap (min size) (length-drop (n * size) body)
length-part Opening size plain body n some bytes at =
    ap (λ p. length p) (get_or-sealed_chunks size body plain n [] some bytes at)
    ∙ length-take (size + 16) (drop (n * (size + 16)) body) ∙ ap (min (size + 16)) (length-drop (n * (size + 16)) body)

-- all chunks but the last are full
least_bytes : (size plain : ℕ) → (chunk_count size plain - 1) * size ≤ plain
least_bytes size plain = count-below size plain (chunk_count size plain - 1) (omega (arith, count-some size plain))

-- the bytes of all pieces
pieces_bounds : (kind : Kind) (size plain : ℕ) → 0 < size
    → ((chunk_count size plain - 1) * room_of (task_of kind) size ≤ pieces_sum kind size plain)
    × (pieces_sum kind size plain ≤ chunk_count size plain * room_of (task_of kind) size)
pieces_bounds Sealing size plain some =
    let least = least_bytes size plain in
    let most = count-enough size plain some in
    let sum = body-count size plain in
    (omega (arith, least, sum), omega (arith, most, sum))
pieces_bounds Opening size plain some = (least_bytes size plain, count-enough size plain some)

pub pieces_of : (kind : Kind) (key header : List ℕ) (cut : CutView) (body : List ℕ) → IsCut kind header cut body
    → ((length (work_values kind key header body) - 1) * room_of (task_of kind) (size_in header) ≤ pieces_sum kind cut.size cut.plain)
    × (pieces_sum kind cut.size cut.plain ≤ length (work_values kind key header body) * room_of (task_of kind) (size_in header))
pieces_of kind key header cut body is =
    rw (length-work_values kind key header cut body is, ← is.size)
    (pieces_bounds kind cut.size cut.plain (some_bytes header cut.size is.size))

-- how many bytes the value of a part has
length-value_at : (kind : Kind) (key header : List ℕ) (n : ℕ) (last : Bool) (part bytes : List ℕ)
    → value_at (task_of kind) key header n last part ≡ Some bytes → length bytes ≡ piece_bytes kind (length part)
length-value_at Sealing key header n last part bytes e =
    ap (λ o. length (unwrap_or o [])) (sym e) ∙ length-sealed_chunk key header n last part
length-value_at Opening key header n last part bytes e =
    let same = ap (λ s. length s) (sealed_chunk-opened_chunk key header n last part bytes e) in
    let long = length-sealed_chunk key header n last bytes in
    omega arith

sizes_agree : (kind : Kind) (size plain bytes n part : ℕ) → 0 < size → bytes ≡ body_bytes (task_of kind) size plain
    → n < chunk_count size plain → part ≡ min (part_size (task_of kind) size) (bytes - n * part_size (task_of kind) size)
    → piece_bytes kind part ≡ min (room_of (task_of kind) size) (pieces_sum kind size plain - n * room_of (task_of kind) size)
sizes_agree Sealing size plain bytes n part some is at e =
    ap (λ k. k + 16) (e ∙ ap (λ b. min size (b - n * size)) is) ∙ sym (chunk_bytes size plain n some at)
sizes_agree Opening size plain bytes n part some is at e =
    let sealed = e ∙ ap (λ b. min (size + 16) (b - n * (size + 16))) is ∙ chunk_bytes size plain n some at in
    omega (arith, sealed)

-- how many bytes the piece of this number has
pub length-value : (kind : Kind) (key header : List ℕ) (cut : CutView) (body : List ℕ) (n : ℕ) (bytes : List ℕ)
    → IsCut kind header cut body → n < length (work_values kind key header body)
    → get_or (work_values kind key header body) n None ≡ Some bytes
    → length bytes
    ≡ min (room_of (task_of kind) (size_in header)) (pieces_sum kind cut.size cut.plain - n * room_of (task_of kind) (size_in header))
length-value kind key header cut body n bytes is at e =
    let some = some_bytes header cut.size is.size in
    let parts = parts_of (task_of kind) (size_in header) body in
    let below : n < chunk_count cut.size cut.plain = rw (← length-work_values kind key header cut body is) at in
    let inside : n < length parts = rw (← length-values (task_of kind) key header 0 true body) at in
    length-value_at kind key header n (eqb (n + 1) (length parts)) (get_or parts n []) bytes
    (sym (get_or-work_values kind key header body n inside) ∙ e)
    ∙ ap (λ size. piece_bytes kind (length (get_or (parts_of (task_of kind) size body) n []))) (sym is.size)
    ∙ sizes_agree kind cut.size cut.plain (length body) n (length (get_or (parts_of (task_of kind) cut.size body) n [])) some is.bytes below
    (length-part kind cut.size cut.plain body n some is.bytes below)
    ∙ ap (λ size. min (room_of (task_of kind) size) (pieces_sum kind cut.size cut.plain - n * room_of (task_of kind) size)) is.size

-- of both kinds there are no more plaintext bytes than can be opened
pub most_plain-most : (kind : Kind) → most_plain kind ≤ 4503599626321920
most_plain-most Sealing = omega arith
most_plain-most Opening = omega arith

pub most_plain-sealing : (kind : Kind) → kind ≡ Sealing → most_plain kind ≤ 1099511627776
most_plain-sealing Sealing is = omega arith
most_plain-sealing Opening is = cc
