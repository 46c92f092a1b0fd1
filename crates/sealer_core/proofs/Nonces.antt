-- The theorem on nonces. Bytes that begin two containers have one prefix, which is in them. So two chunks with one nonce
-- are of outputs with one prefix, and these are one output.
use Rattle.std.proofs.Common.{◌≡◌, ℕ, ◌+◌, ◌*◌, ◌^◌, ◌<◌, ◌≤◌, List, ◌++◌, length, take, drop, sym, refl, ap, ◌∙◌, subst, arith, length-drop}
use Rattle.std.specs.Coded.{Coded-set, coded_list, coded_ℕ}
use Rattle.std.proofs.Math.Logic.{∥∥₁_elim, ∥∥₁_map}
use Rattle.std.proofs.lemmas.List.{take-append-le, drop-append-le}
use Rattle.io_core.specs.Streams.{IsFront}
use Rattle.container_core.specs.Chunks.{chunks, tag_size}
use Rattle.container_core.specs.Container.{container, header_of}
use Rattle.container_core.specs.Shape.{IsShape, ShapeView, size_of}
use Rattle.container_core.specs.Stream.{prefix_in, stream}
use Rattle.container_core.proofs.HeaderLemmas.{length-header_of, prefix_in-header_of}
use Rattle.folder_core.specs.Record.{IsSound}
use Rattle.journal_core.specs.Range.{Numbers, prefix_of}
use Rattle.sealer_core.specs.Theorem.{AreRunsOf, HasChunk, IsKeyedBy, IsOutputAt, IsRun, Position, Run}
use Rattle.sealer_core.proofs.Chunks.{chunk_there, one_nonce}
use Rattle.sealer_core.proofs.Numbered.{begins_at, is_run}

-- ---- the prefix is in the bytes

early : (bytes rest : List ℕ) → 17 ≤ length bytes → prefix_in (bytes ++ rest) ≡ prefix_in bytes
unfolding prefix_in
early bytes rest long =
    let behind = length-drop 10 bytes in
    ap (λ (l : List ℕ). take 7 l) (drop-append-le 10 bytes rest (omega arith))
    ∙ take-append-le 7 (drop 10 bytes) rest (omega arith)

prefix_shown : (key bytes : List ℕ) (shape : ShapeView) (prefix plain : List ℕ) → length prefix ≡ 7 → 17 ≤ length bytes
    → IsFront bytes (container key shape prefix plain) → prefix_in bytes ≡ prefix
unfolding container
prefix_shown key bytes shape prefix plain seven long (rest, is) =
    sym (early bytes rest long) ∙ ap prefix_in (sym is)
    ∙ prefix_in-header_of key prefix (stream key (header_of key shape prefix) 0 (chunks (size_of shape) plain)) shape seven

module _ (key : List ℕ) (runs : ℕ → List Run) (are : AreRunsOf key runs) where
  -- what an output holds begins a container
  abbrev BeginsAt : (place : Position) → IsOutputAt runs place → Numbers → Type 0
  BeginsAt place at range = IsShape at.shape × ((range.lo ≤ at.number) × (at.number < range.lo + range.size))
      × ((plain : List ℕ) × IsFront at.output.bytes (container key at.shape (prefix_of place.device at.number) plain))

  begins_it : (place : Position) (at : IsOutputAt runs place) (is : IsRun key place.device at.run) → IsSound at.run.written → BeginsAt place at is.range
  begins_it place at is sound =
      let (lawful, inside, begun) = begins_at key is.range at.run.written place.entry at.number at.output at.shape is.keyed sound at.at_entry at.content in
      (lawful, inside, subst (λ d. (plain : List ℕ) × IsFront at.output.bytes (container key at.shape (prefix_of d at.number) plain)) is.of_device begun)

  pub begins : (place : Position) (at : IsOutputAt runs place)
      → (range : Numbers) × (range.device ≡ place.device) × IsKeyedBy key range at.run.written × ∥ BeginsAt place at range ∥₁
  begins place at =
      let is = is_run key runs are place at in
      (is.range, is.of_device, is.keyed, ∥∥₁_map is.sound (begins_it place at is))

  pub each : (place : Position) (chunk : ℕ) (at : IsOutputAt runs place)
      → length (header_of key at.shape (prefix_of place.device at.number)) + chunk * (size_of at.shape + tag_size) < length at.output.bytes
      → chunk < 2 ^ 32 → ∥ ((nonce : List ℕ) × HasChunk key at.output.bytes chunk nonce) ∥₁
  each place chunk at reached few =
      let is = is_run key runs are place at in
      ∥∥₁_map is.sound (λ sound.
      let (lawful, inside, (plain, front)) = begins_it place at is sound in
      chunk_there key (prefix_of place.device at.number) at.output.bytes plain at.shape chunk lawful refl front reached few)

  -- what the law on prefixes says of these runs
  abbrev pub OnePrefix : Type 0
  OnePrefix = (one other : Position) (at : IsOutputAt runs one) (also : IsOutputAt runs other)
      → prefix_of one.device at.number ≡ prefix_of other.device also.number → one ≡ other

  -- an output has the prefix of each chunk of it
  prefix_is : (place : Position) (chunk : ℕ) (nonce : List ℕ) (at : IsOutputAt runs place)
      → (has : HasChunk key at.output.bytes chunk nonce) → prefix_of place.device at.number ≡ has.prefix
  prefix_is place chunk nonce at has =
      let is = is_run key runs are place at in
      let header = length-header_of key has.prefix has.shape has.seven in
      let reached = has.reached in
      let bytes = at.output.bytes in
      let long : 17 ≤ length bytes = omega arith in
      let shown = prefix_shown key bytes has.shape has.prefix has.plain has.seven long has.begins in
      ∥∥₁_elim is.sound (Coded-set (coded_list coded_ℕ) _ _) (λ sound.
      let (lawful, inside, (plain, front)) = begins_it place at is sound in
      sym (prefix_shown key bytes at.shape (prefix_of place.device at.number) plain refl long front) ∙ shown)

  pub once : OnePrefix → (one other : Position) (chunk another : ℕ) (nonce : List ℕ) (at : IsOutputAt runs one) (also : IsOutputAt runs other)
      → HasChunk key at.output.bytes chunk nonce → HasChunk key also.output.bytes another nonce → (one ≡ other) × (chunk ≡ another)
  once law one other chunk another nonce at also has had =
      let (prefixes, chunks) = one_nonce key has.prefix had.prefix has.plain had.plain has.shape had.shape chunk another nonce has.seven had.seven
      has.numbered had.numbered has.nonce_is had.nonce_is in (
        law one other at also (prefix_is one chunk nonce at has ∙ prefixes ∙ sym (prefix_is other another nonce also had)),
        chunks,
      )
