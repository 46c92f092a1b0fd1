-- The laws of lives: adjacent ranges are apart, so grants have different prefixes, so sealed chunks have different
-- nonces.
use Rattle.std.proofs.Common.{◌≡◌, ◌≢◌, ℕ, zero, suc, ◌+◌, ◌++◌, ◌^◌, ◌<◌, ◌≤◌, List, [], ◌∷◌, length, Some, None, refl, sym, ap, ◌∙◌, subst, arith}
use mathlib.Core.Logic.{dite}
use native.Mathlib.Decide.{dec_le}
use Rattle.std.specs.Prelude.{slice_get}
use Rattle.std.proofs.Math.Nat.{pow-le-pow_right}
use Rattle.journal_core.specs.declared.entry.Event.TheVariants.{Granted}
use Rattle.journal_core.specs.declared.entry.Entry.{Entry}
use Rattle.journal_core.specs.declared.terms.Terms.{Terms}
use Rattle.journal_core.specs.Range.{prefix_of, range_of}
use Rattle.journal_core.specs.History.{Legal, entry}
use Rattle.journal_core.proofs.Prefixes.{numbers_once, prefix_tells}
use Rattle.container_core.specs.Chunks.{chunks}
use Rattle.container_core.specs.Container.{container, header_of}
use Rattle.container_core.specs.Nonces.{container_nonces, sealed_by_nonces, stream_nonces}
use Rattle.container_core.specs.Stream.{is_nil, sealed_chunk, stream}
use Rattle.container_core.specs.Shape.{ShapeView, IsShape, size_of}
use Rattle.container_core.proofs.PartsLemmas.{length-chunks, count-few}
use Rattle.container_core.proofs.HeaderLemmas.{shape-bounds}
use Rattle.ranges_core.specs.Reservations.{TakenRange, Adjacent, end_from}
use Rattle.ranges_core.proofs.Behind.{behind}
use Rattle.sealer_core.specs.Life.{Acknowledged, IsGrantAt, IsLife, LedgerRun, Lives, Unacknowledged, reserved}
use Rattle.sealer_core.specs.Theorem.{Position}
use Rattle.sealer_core.proofs.Chunks.{nonce_inside, one_nonce}

-- ranges of a list

later : (from : ℕ) (rs : List TakenRange) (i j : ℕ) (a b : TakenRange) → Adjacent from rs → i < j → slice_get rs i ≡ Some a
    → slice_get rs j ≡ Some b → a.lo + a.size ≤ b.lo
later from [] i j a b adjacent less at also = absurd (cc)
later from (r ∷ more) i zero a b adjacent less at also = absurd (omega arith)
later from (r ∷ more) zero (suc j) a b adjacent less at also =
    let (begins, some, rest) = adjacent in
    let (lo, end) = behind (from + r.size) more j b rest also in
    let same_lo : r.lo ≡ a.lo = cc in
    let same_size : r.size ≡ a.size = cc in
    omega arith
later from (r ∷ more) (suc i) (suc j) a b adjacent less at also =
    let (begins, some, rest) = adjacent in
    later (from + r.size) more i j a b rest (omega arith) at also

pub apart : (device : ℕ) (runs : List LedgerRun) (i j number : ℕ) (one other : TakenRange) → IsLife device runs → i ≢ j
    → slice_get (reserved runs) i ≡ Some one → slice_get (reserved runs) j ≡ Some other
    → one.lo ≤ number → number < one.lo + one.size → other.lo ≤ number → number < other.lo + other.size → ⊥
apart device runs i j number one other life differ at also from below begin under =
    dite (dec_le i j)
    (λ le. let h = later 0 (reserved runs) i j one other life.adjacent (omega arith) at also in omega arith)
    (λ gt. let h = later 0 (reserved runs) j i other one life.adjacent (omega arith) also at in omega arith)

-- the ranges of runs that were acknowledged

-- a run's range is in the list of all
acknowledged : (from : ℕ) (runs : List LedgerRun) (i seats : ℕ) (r : TakenRange) (history : List Entry) → Adjacent from (reserved runs)
    → slice_get runs i ≡ Some (Acknowledged r seats history) → (from ≤ r.lo) × (r.lo + r.size ≤ end_from from (reserved runs))
acknowledged from [] i seats r history adjacent at = absurd (cc)
acknowledged from (Unacknowledged q ∷ rest) zero seats r history adjacent at = absurd (cc)
acknowledged from (Acknowledged q s h ∷ rest) zero seats r history adjacent at =
    behind from (q ∷ reserved rest) 0 r adjacent (let same : q ≡ r = cc in ap (λ (x : TakenRange). Some x) same)
acknowledged from (Unacknowledged None ∷ rest) (suc i) seats r history adjacent at = acknowledged from rest i seats r history adjacent at
acknowledged from (Unacknowledged (Some q) ∷ rest) (suc i) seats r history (begins, some, more) at =
    let (lo, end) = acknowledged (from + q.size) rest i seats r history more at in
    let same : end_from (q.lo + q.size) (reserved rest) ≡ end_from (from + q.size) (reserved rest) = ap (λ (m : ℕ). end_from (m + q.size) (reserved rest)) begins in
    (omega arith, omega arith)
acknowledged from (Acknowledged q s h ∷ rest) (suc i) seats r history (begins, some, more) at =
    let (lo, end) = acknowledged (from + q.size) rest i seats r history more at in
    let same : end_from (q.lo + q.size) (reserved rest) ≡ end_from (from + q.size) (reserved rest) = ap (λ (m : ℕ). end_from (m + q.size) (reserved rest)) begins in
    (omega arith, omega arith)

-- a later run's is after an earlier one's
later_run : (from : ℕ) (runs : List LedgerRun) (i j seats places : ℕ) (one other : TakenRange) (history story : List Entry) → Adjacent from (reserved runs) → i < j
    → slice_get runs i ≡ Some (Acknowledged one seats history) → slice_get runs j ≡ Some (Acknowledged other places story) → one.lo + one.size ≤ other.lo
later_run from [] i j seats places one other history story adjacent less at also = absurd (cc)
later_run from (run ∷ rest) i zero seats places one other history story adjacent less at also = absurd (omega arith)
later_run from (Unacknowledged q ∷ rest) zero (suc j) seats places one other history story adjacent less at also = absurd (cc)
later_run from (Acknowledged q s h ∷ rest) zero (suc j) seats places one other history story (begins, some, more) less at also =
    let same : q ≡ one = cc in
    let (lo, end) = acknowledged (from + q.size) rest j places other story more also in
    let ends : q.lo + q.size ≤ other.lo = omega arith in
    subst (λ (r : TakenRange). r.lo + r.size ≤ other.lo) same ends
later_run from (Unacknowledged None ∷ rest) (suc i) (suc j) seats places one other history story adjacent less at also =
    later_run from rest i j seats places one other history story adjacent (omega arith) at also
later_run from (Unacknowledged (Some q) ∷ rest) (suc i) (suc j) seats places one other history story (begins, some, more) less at also =
    later_run (from + q.size) rest i j seats places one other history story more (omega arith) at also
later_run from (Acknowledged q s h ∷ rest) (suc i) (suc j) seats places one other history story (begins, some, more) less at also =
    later_run (from + q.size) rest i j seats places one other history story more (omega arith) at also

pub not_apart : (k l : ℕ) → (k ≢ l → ⊥) → k ≡ l
not_apart k l h =
    dite (dec_le k l)
    (λ le. dite (dec_le l k) (λ ge. omega arith) (λ gt. absurd (h (λ e. omega arith))))
    (λ gt. absurd (h (λ e. omega arith)))

pub same_place : (one other : Position) → one.device ≡ other.device → one.run ≡ other.run → one.entry ≡ other.entry → one ≡ other
same_place one other d r e =
    ap (λ x. record { device = x; run = one.run; entry = one.entry }) d
    ∙ ap (λ x. record { device = other.device; run = x; entry = one.entry }) r
    ∙ ap (λ x. record { device = other.device; run = other.run; entry = x }) e

module _ (lives : Lives) where
  -- what is known of the number of a grant
  record Standing (place : Position) (at : IsGrantAt lives place) : Type 0 where
    from : at.range.lo ≤ at.number
    below : at.number < at.range.lo + at.range.size
    three_bytes : place.device ≤ 16777215
    four_bytes : at.number < 4294967296

  abbrev terms_at : (place : Position) → IsGrantAt lives place → Terms
  terms_at place at = record { range = range_of place.device at.range.lo at.range.size; seats = at.seats }

  legal_at : (place : Position) (at : IsGrantAt lives place) → Legal (terms_at place at) at.history
  legal_at place at = at.life.legal place.run at.seats at.range at.history at.at_run

  standing : (place : Position) (at : IsGrantAt lives place) → Standing place at
  standing place at =
      let (low, high) = (numbers_once (terms_at place at) at.history (legal_at place at)).inside place.entry at.number at.seat at.at_entry in
      let (lo, end) = acknowledged 0 (lives place.device) place.run at.seats at.range at.history at.life.adjacent at.at_run in
      let last = at.life.end in
      record { from = low; below = high; three_bytes = at.life.three_bytes; four_bytes = omega arith }

  pub one_grant : (one other : Position) (at : IsGrantAt lives one) (also : IsGrantAt lives other)
      → prefix_of one.device at.number ≡ prefix_of other.device also.number → one ≡ other
  one_grant one other at also same =
      let a = standing one at in
      let b = standing other also in
      let (devices, numbers) = prefix_tells one.device at.number other.device also.number a.three_bytes a.four_bytes b.three_bytes b.four_bytes same in
      let a_from = a.from in
      let a_below = a.below in
      let b_from = b.from in
      let b_below = b.below in
      let there : slice_get (lives one.device) other.run ≡ Some (Acknowledged also.range also.seats also.history) = ap (λ d. slice_get (lives d) other.run) devices ∙ also.at_run in
      let run : one.run ≡ other.run = not_apart one.run other.run (λ differ. dite (dec_le one.run other.run)
      (λ le. let rise = later_run 0 (lives one.device) one.run other.run at.seats also.seats at.range also.range at.history also.history at.life.adjacent (omega arith) at.at_run there in omega arith)
      (λ gt. let rise = later_run 0 (lives one.device) other.run one.run also.seats at.seats also.range at.range also.history at.history at.life.adjacent (omega arith) there at.at_run in omega arith)) in
      let here : slice_get (lives one.device) one.run ≡ Some (Acknowledged also.range also.seats also.history) = ap (λ i. slice_get (lives one.device) i) run ∙ there in
      let both : at.history ≡ also.history = cc (at.at_run, here) in
      let in_it : slice_get at.history other.entry ≡ Some (entry also.seat (Granted at.number)) =
      ap (λ (h : List Entry). slice_get h other.entry) both ∙ also.at_entry ∙ ap (λ n. Some (entry also.seat (Granted n))) (sym numbers) in
      let once = (numbers_once (terms_at one at) at.history (legal_at one at)).once in
      same_place one other devices run
      (not_apart one.entry other.entry (λ differ. once one.entry other.entry at.number at.number at.seat also.seat differ at.at_entry in_it refl))

-- the nonces of a container

-- a chunk has at least 4096 bytes
chunks_few : (shape : ShapeView) (plain : List ℕ) → IsShape shape → length plain ≤ 2 ^ 40
    → length (chunks (size_of shape) plain) < 2 ^ 32
chunks_few shape plain lawful few =
    let bounds = shape-bounds shape.exponent shape.label lawful in
    let least : 4096 ≤ size_of shape = pow-le-pow_right {n = 2} (omega arith) bounds.0 in
    let h = length-chunks (size_of shape) plain in
    let count = count-few (size_of shape) (length plain) least few in
    omega (arith, h, count)

pub one_granted_nonce : (key : List ℕ) (lives : Lives) (one other : Position) (shape form : ShapeView) (plain text : List ℕ) (chunk another : ℕ) (nonce : List ℕ)
    → (at : IsGrantAt lives one) → (also : IsGrantAt lives other) → IsShape shape → IsShape form → length plain ≤ 2 ^ 40 → length text ≤ 2 ^ 40
    → slice_get (container_nonces key shape (prefix_of one.device at.number) plain) chunk ≡ Some nonce
    → slice_get (container_nonces key form (prefix_of other.device also.number) text) another ≡ Some nonce
    → (one ≡ other) × (chunk ≡ another)
one_granted_nonce key lives one other shape form plain text chunk another nonce at also lawful proper few slight has had =
    let a = chunks_few shape plain lawful few in
    let b = chunks_few form text proper slight in
    let small = nonce_inside (header_of key shape (prefix_of one.device at.number)) 0 (chunks (size_of shape) plain) chunk nonce has in
    let tiny = nonce_inside (header_of key form (prefix_of other.device also.number)) 0 (chunks (size_of form) text) another nonce had in
    let (prefixes, same) = one_nonce key (prefix_of one.device at.number) (prefix_of other.device also.number) plain text shape form chunk another nonce refl refl
    (omega arith) (omega arith) has had in
    (one_grant lives one other at also prefixes, same)

-- the nonces of STREAM

stream_under : (key header : List ℕ) (number : ℕ) (list : List (List ℕ))
    → stream key header number list ≡ sealed_by_nonces key header (stream_nonces header number list) list
unfolding stream sealed_chunk stream_nonces sealed_by_nonces
stream_under key header number [] = refl
stream_under key header number (chunk ∷ rest) =
    ap (λ (s : List ℕ). sealed_chunk key header number (is_nil rest) chunk ++ s) (stream_under key header (number + 1) rest)

pub container_under : (key prefix plain : List ℕ) (shape : ShapeView)
    → container key shape prefix plain ≡ header_of key shape prefix ++ sealed_by_nonces key (header_of key shape prefix)
    (container_nonces key shape prefix plain) (chunks (size_of shape) plain)
unfolding container
container_under key prefix plain shape =
    ap (λ (s : List ℕ). header_of key shape prefix ++ s) (stream_under key (header_of key shape prefix) 0 (chunks (size_of shape) plain))
