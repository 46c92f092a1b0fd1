-- Each chunk that the bytes of a container reach has a nonce, and that shows its prefix and the chunk's number.
use Rattle.std.proofs.Common.{◌≡◌, ℕ, zero, suc, ◌+◌, ◌*◌, ◌^◌, ◌<◌, ◌≤◌, List, [], ◌∷◌, ◌++◌, length, Bool, Some, refl, sym, ap, ◌∙◌, arith, length-append, append-nil}
use Rattle.std.proofs.Math.Nat.{mul-le-mul_right, pow-le-pow_right}
use mathlib.Core.Logic.{dite}
use native.Mathlib.Decide.{dec_le}
use Rattle.std.specs.Prelude.{slice_get}
use Rattle.container_core.specs.Chunks.{body_length, chunk_count, chunks, tag_size}
use Rattle.container_core.specs.Container.{container, header_of}
use Rattle.container_core.specs.Nonces.{container_nonces, stream_nonces}
use Rattle.container_core.specs.Shape.{IsShape, ShapeView, size_of}
use Rattle.container_core.specs.Stream.{is_nil, nonce_of, prefix_in, stream}
use Rattle.container_core.proofs.HeaderLemmas.{prefix_in-header_of, shape-bounds}
use Rattle.container_core.proofs.LawLemmas.{nonce_of-injective}
use Rattle.container_core.proofs.OpeningLemmas.{length-body}
use Rattle.container_core.proofs.PartsLemmas.{body-count, count-enough, length-chunks}
use Rattle.io_core.specs.Streams.{IsFront}
use Rattle.sealer_core.specs.Theorem.{HasChunk}

has_nonce : (header : List ℕ) (number : ℕ) (list : List (List ℕ)) (chunk : ℕ) → chunk < length list
    → (nonce : List ℕ) × (slice_get (stream_nonces header number list) chunk ≡ Some nonce)
unfolding stream_nonces
has_nonce header number [] chunk less = absurd (omega arith)
has_nonce header number (c ∷ rest) zero less = (nonce_of (prefix_in header) number (is_nil rest), refl)
has_nonce header number (c ∷ rest) (suc chunk) less = has_nonce header (number + 1) rest chunk (omega arith)

below_count : (size n chunk : ℕ) → 0 < size → chunk * (size + 16) < body_length size n → chunk < chunk_count size n
below_count size n chunk some reached =
    let count = body-count size n in
    let enough = count-enough size n some in
    dite (dec_le (chunk_count size n) chunk)
    (λ many.
    let more : chunk_count size n * size ≤ chunk * size = mul-le-mul_right size many in
    absurd (omega (arith, reached, count, enough, more, many)))
    (λ less. omega (arith, less))

pub chunk_there : (key prefix bytes plain : List ℕ) (shape : ShapeView) (chunk : ℕ) → IsShape shape → length prefix ≡ 7
    → IsFront bytes (container key shape prefix plain)
    → length (header_of key shape prefix) + chunk * (size_of shape + tag_size) < length bytes
    → chunk < 2 ^ 32 → (nonce : List ℕ) × HasChunk key bytes chunk nonce
unfolding container
chunk_there key prefix bytes plain shape chunk lawful seven begins reached few =
    let header = header_of key shape prefix in
    let pieces = chunks (size_of shape) plain in
    let (rest, is) = begins in
    let bounds = shape-bounds shape.exponent shape.label lawful in
    let least : 4096 ≤ size_of shape = pow-le-pow_right {n = 2} (omega arith) bounds.0 in
    let whole : length (header ++ stream key header 0 pieces) ≡ length (bytes ++ rest) = ap (λ (l : List ℕ). length l) is in
    let front = length-append header (stream key header 0 pieces) in
    let back = length-append bytes rest in
    let body = length-body (size_of shape) key header plain in
    let all = length-chunks (size_of shape) plain in
    let low = below_count (size_of shape) (length plain) chunk (omega (arith, least)) (omega (arith, reached, whole, front, back, body)) in
    let (nonce, at) = has_nonce header 0 pieces chunk (omega (arith, low, all)) in (
      nonce,
      record {
        shape = shape;
        prefix = prefix;
        plain = plain;
        seven = seven;
        begins = begins;
        reached = reached;
        numbered = few;
        nonce_is = at;
      },
    )

-- ---- a nonce shows its prefix and chunk
nonce_at : (header : List ℕ) (number : ℕ) (list : List (List ℕ)) (k : ℕ) (nonce : List ℕ) → slice_get (stream_nonces header number list) k ≡ Some nonce
    → (last : Bool) × (k < length list) × (nonce ≡ nonce_of (prefix_in header) (number + k) last)
unfolding stream_nonces
nonce_at header number [] k nonce at = absurd (cc)
nonce_at header number (chunk ∷ rest) zero nonce at =
    let same : nonce_of (prefix_in header) number (is_nil rest) ≡ nonce = cc in
    let here : number ≡ number + 0 = omega arith in
    (is_nil rest, omega arith, sym same ∙ ap (λ (m : ℕ). nonce_of (prefix_in header) m (is_nil rest)) here)
nonce_at header number (chunk ∷ rest) (suc k) nonce at =
    let (last, small, is) = nonce_at header (number + 1) rest k nonce at in
    let there : number + 1 + k ≡ number + suc k = omega arith in
    (last, omega arith, is ∙ ap (λ (m : ℕ). nonce_of (prefix_in header) m last) there)

header_prefix : (key prefix : List ℕ) (shape : ShapeView) → length prefix ≡ 7 → prefix_in (header_of key shape prefix) ≡ prefix
header_prefix key prefix shape seven =
    ap prefix_in (sym (append-nil (header_of key shape prefix))) ∙ prefix_in-header_of key prefix [] shape seven

pub nonce_inside : (header : List ℕ) (number : ℕ) (list : List (List ℕ)) (k : ℕ) (nonce : List ℕ) → slice_get (stream_nonces header number list) k ≡ Some nonce
    → k < length list
nonce_inside header number list k nonce at = (nonce_at header number list k nonce at).1

pub one_nonce : (key prefix other plain text : List ℕ) (shape form : ShapeView) (chunk another : ℕ) (nonce : List ℕ)
    → length prefix ≡ 7 → length other ≡ 7 → chunk < 2 ^ 32 → another < 2 ^ 32
    → slice_get (container_nonces key shape prefix plain) chunk ≡ Some nonce
    → slice_get (container_nonces key form other text) another ≡ Some nonce → (prefix ≡ other) × (chunk ≡ another)
one_nonce key prefix other plain text shape form chunk another nonce seven too few rare at place =
    let (last, small, is) = nonce_at (header_of key shape prefix) 0 (chunks (size_of shape) plain) chunk nonce at in
    let (end, tiny, same) = nonce_at (header_of key form other) 0 (chunks (size_of form) text) another nonce place in
    let mine : nonce ≡ nonce_of prefix (0 + chunk) last = is ∙ ap (λ (z : List ℕ). nonce_of z (0 + chunk) last) (header_prefix key prefix shape seven) in
    let yours : nonce ≡ nonce_of other (0 + another) end = same ∙ ap (λ (z : List ℕ). nonce_of z (0 + another) end) (header_prefix key other form too) in
    let (prefixes, numbers, flags) = nonce_of-injective prefix other (0 + chunk) (0 + another) last end (seven ∙ sym too) (omega arith) (omega arith) (sym mine ∙ yours) in
    (prefixes, omega arith)
