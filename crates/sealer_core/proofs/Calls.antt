-- A call is a run of the theorem, whether it ended or was killed.
use Rattle.std.proofs.Common.{◌≡◌, ℕ, ◌+◌, ◌<◌, ◌≤◌, List, [], ◌∷◌, ◌++◌, Bool, true, false, cond, nat_eq, Option, None, Some, inl, inr, refl, sym, ap, ◌∙◌, subst, arith, eq-eqb, append-nil}
use Rattle.std.specs.Prelude.{IfSome, option_map}
use Rattle.std.proofs.lemmas.List.Sums.{sum_by-cons}
use Rattle.container_core.specs.Container.{container}
use Rattle.container_core.specs.Shape.{IsShape, ShapeView}
use Rattle.io_core.specs.Streams.{Appends, AppendsFront, IsFront}
use Rattle.command_core.specs.Lines.{FileLine}
use Rattle.command_core.specs.declared.line.FileFault.TheVariants.{NoNumber, Unsealed}
use Rattle.command_core.specs.declared.line.FileOutcome.{FileOutcome}
use Rattle.command_core.specs.declared.line.FileOutcome.TheVariants.{Sealed, Failed}
use Rattle.folder_core.specs.Changes.{Becomes, IsUnstarted, allowed, new_output, set_bytes, set_content, started, stream_name, whole, whole_by}
use Rattle.folder_core.specs.Growth.{Grows}
use Rattle.folder_core.specs.Record.{Container, Created, Entry, IsSound, RunRecord, begins, times_begun}
use Rattle.folder_core.proofs.Entries.{times_cons}
use Rattle.journal_core.specs.declared.entry.Entry as operation
use Rattle.journal_core.specs.declared.terms.Terms.{Terms}
use Rattle.journal_core.specs.History.{Legal, times_granted}
use Rattle.journal_core.specs.Journal.{terms_of}
use Rattle.journal_core.specs.Range.{Numbers, prefix_of}
use Rattle.journal_core.proofs.Bounds.{within}
use Rattle.command_core.specs.Turns.{Printed}
use Rattle.sealer_core.specs.Piping.{HasSealedStream, PipeView, WorksStream}
use Rattle.sealer_core.specs.Sealing.{Accounts, SealedUnder, line_of, sealed_under, times_in}
use Rattle.sealer_core.specs.Theorem.{IsKeyedBy, IsOfStream, stream_record}
use Rattle.sealer_core.proofs.Numbering.{granted_once}

module _ (key : List ℕ) (range : Numbers) where
  -- the record has the key and range with which it started
  pub still_keyed : (kind : List Entry → Type 0) (before : Option RunRecord) (after : RunRecord)
      → Grows kind (option_map (started key range) before) (Some after) → IsKeyedBy key range after
  still_keyed kind None after grew = absurd grew
  still_keyed kind (Some r) after (new, of, is) = ap (λ (r : RunRecord). r.under) is

  known_keyed : (before : Option RunRecord) (was : RunRecord) → option_map (started key range) before ≡ Some was → IsKeyedBy key range was
  known_keyed None was is = absurd (cc)
  known_keyed (Some r) was is = let same : started key range r ≡ was = cc in ap (λ (r : RunRecord). r.under) (sym same)

  -- a call that leaves both leaves them to it
  became_keyed : (change : RunRecord → RunRecord) → ((r : RunRecord) → (change r).under ≡ r.under)
      → (before old new : Option RunRecord) (after : RunRecord) → old ≡ option_map (started key range) before
      → new ≡ Some after → Becomes change old new → IsKeyedBy key range after
  became_keyed change leaves before old new after from to becomes =
      let (was, known, is) = subst (λ (o : Option RunRecord). Becomes change old o) to becomes in
      ap (λ (r : RunRecord). r.under) is ∙ leaves was ∙ known_keyed before was (sym from ∙ known)

  -- so has that of a stream
  pub stream_keyed : (under : SealedUnder) (place : ℕ) (old new : PipeView) (before : Option RunRecord)
      (after : RunRecord) (outcome : FileOutcome) (voids : List ℕ) → old.rest ≡ option_map (started key range) before
      → new.rest ≡ Some after → WorksStream under place old new outcome voids → IsKeyedBy key range after
  stream_keyed under place old new before after (Sealed number bytes) voids from to (none, (becomes, did)) =
      became_keyed (allowed place (Container number under.shape)) (λ r. refl) before old.rest new.rest after from to becomes
  stream_keyed under place old new before after (Failed NoNumber) voids from to (none, (same, becomes)) =
      became_keyed (λ r. r) (λ r. refl) before old.rest new.rest after from to becomes
  stream_keyed under place old new before after (Failed (Unsealed fault)) [] from to (memory, (same, becomes)) =
      became_keyed (λ r. r) (λ r. refl) before old.rest new.rest after from to becomes
  stream_keyed under place old new before after (Failed (Unsealed fault)) (number ∷ []) from to (becomes, did) =
      became_keyed (allowed place (Container number under.shape)) (λ r. refl) before old.rest new.rest after from to becomes
  stream_keyed under place old new before after outcome voids from to never = absurd never

-- with the bytes that the output in hand took it has them too
pub whole_keyed : (key : List ℕ) (range : Numbers) (place : Option ℕ) (held : List ℕ) (r : RunRecord) → IsKeyedBy key range r
    → IsKeyedBy key range (whole_by place held r)
whole_keyed key range None held r keyed = keyed
whole_keyed key range (Some n) held r keyed = keyed

-- where nothing is in hand, all bytes are in it
idle_whole : (place : Option ℕ) (held : List ℕ) (r : RunRecord) → place ≡ None → whole_by place held r ≡ r
idle_whole None held r none = refl
idle_whole (Some n) held r none = absurd (cc)

pub ended_whole : (key : List ℕ) (range : Numbers) (kind : List Entry → Type 0) (before : Option RunRecord) (after : RunRecord)
    (held : List ℕ) → IfSome before IsUnstarted → Grows kind (option_map (started key range) before) (Some after)
    → whole after held ≡ after
ended_whole key range kind None after held unstarted grew = absurd grew
ended_whole key range kind (Some r) after held unstarted (new, of, is) =
    idle_whole after.in_hand held after (ap (λ (r : RunRecord). r.in_hand) is ∙ unstarted.idle)

-- ---- a stream without a record

few_in : (b : Bool) (k : ℕ) → k ≡ cond b 1 0 + 0 → k ≤ 1
few_in true k is = omega arith
few_in false k is = omega arith

some_is : (a b : List ℕ) → Some a ≡ Some b → a ≡ b
some_is a b same = cc

-- what is known to have been taken grew by this
appended : (old new : Option (List ℕ)) (taken then bytes : List ℕ) → old ≡ Some taken → new ≡ Some then → Appends old new bytes → then ≡ taken ++ bytes
appended None new taken then bytes was is grew = absurd (cc)
appended (Some one) None taken then bytes was is grew = absurd (cc)
appended (Some one) (Some other) taken then bytes was is grew =
    sym (some_is other then is) ∙ grew ∙ ap (λ l. l ++ bytes) (some_is one taken was)

in_one : (n : ℕ) → times_in n (n ∷ []) ≡ 1
in_one n =
    let all = sum_by-cons (λ (m : ℕ). cond (nat_eq n m) 1 0) n [] in
    let one : cond {A = ℕ} (nat_eq n n) 1 0 ≡ 1 = ap (λ b. cond {A = ℕ} b 1 0) (eq-eqb n n refl) in omega arith

-- the void number of a line was granted
void_granted : (lines : List FileLine) (history : List operation.Entry) (number : ℕ) → Accounts lines (number ∷ []) history
    → 0 < times_granted number history
void_granted lines history number accounts =
    let one = in_one number in
    let void = accounts.voided number in
    let all = accounts.granted number in omega arith

-- a number that a legal history grants is in the range
granted_inside : (terms : Terms) (history : List operation.Entry) (number : ℕ) → Legal terms history → 0 < times_granted number history
    → (terms.range.lo ≤ number) × (number < terms.range.lo + terms.range.size)
granted_inside terms history number legal some =
    let (few, low) = granted_once terms history legal number in
    let bound = (within terms history legal).0 in
    let (from, below) = low some in
    (from, omega arith)

module _ (key : List ℕ) (range : Numbers) (shape : ShapeView) (is_shape : IsShape shape) where
  abbrev IsInside : ℕ → Type 0
  IsInside number = (range.lo ≤ number) × (number < range.lo + range.size)

  -- what a writer took, and a sound record of it
  abbrev pub WritesStream : List ℕ → List ℕ → Type 0
  WritesStream taken then = (bytes : List ℕ) × (then ≡ taken ++ bytes)
      × ((r : RunRecord) × IsOfStream key range shape bytes r × IsKeyedBy key range r × IsSound r)

  begun : (number : ℕ) (taken then bytes input : List ℕ) → then ≡ taken ++ bytes → IsInside number
      → IsFront bytes (container key shape (prefix_of range.device number) input) → WritesStream taken then
  begun number taken then bytes input grew inside front =
      let output : Entry = Created (set_bytes bytes (set_content (Container number shape) (new_output stream_name))) in (
        bytes,
        grew,
        (
          whole (allowed 0 (Container number shape) (stream_record key range)) bytes,
          inr (number, refl),
          refl,
          record {
            each = (((is_shape, inside), (input, front)), tt);
            once = λ n. few_in (begins n output) (times_begun n (output ∷ [])) (times_cons n output []);
          },
        ),
      )

  unbegun : (taken then : List ℕ) → then ≡ taken → WritesStream taken then
  unbegun taken then same =
      let output : Entry = Created (new_output stream_name) in (
        [],
        same ∙ sym (append-nil taken),
        (
          stream_record key range,
          inl (refl, refl),
          refl,
          record {
            each = ((tt, ([], refl)), tt);
            once = λ n. few_in (begins n output) (times_begun n (output ∷ [])) (times_cons n output []);
          },
        ),
      )

  module _ (most place : ℕ) (old new : PipeView) (input taken then : List ℕ) (had : old.stream.left ≡ Some input) (was : old.stream.taken ≡ Some taken)
      (is : new.stream.taken ≡ Some then) where
    abbrev under : SealedUnder
    under = sealed_under key shape range.device most

    of_works : (outcome : FileOutcome) (voids : List ℕ) → ((number bytes : ℕ) → outcome ≡ Sealed number bytes → IsInside number)
        → ((number : ℕ) → voids ≡ number ∷ [] → IsInside number) → WorksStream under place old new outcome voids → WritesStream taken then
    of_works (Sealed number bytes) voids told void (none, (becomes, did)) =
        let all = container key shape (prefix_of range.device number) input in
        let grew = subst (λ l. IfSome l (λ input. Appends old.stream.taken new.stream.taken (container key shape (prefix_of range.device number) input))) had did.written in
        begun number taken then all input (appended old.stream.taken new.stream.taken taken then all was is grew) (told number bytes refl) ([], sym (append-nil all))
    of_works (Failed NoNumber) voids told void (none, (same, becomes)) =
        unbegun taken then (some_is then taken (sym is ∙ ap (λ s. s.taken) same ∙ was))
    of_works (Failed (Unsealed fault)) [] told void (memory, (same, becomes)) =
        unbegun taken then (some_is then taken (sym is ∙ ap (λ s. s.taken) same ∙ was))
    of_works (Failed (Unsealed fault)) (number ∷ []) told void (becomes, did) =
        let (bytes, front, grew) = subst (λ l. IfSome l (λ input. AppendsFront old.stream.taken new.stream.taken (container key shape (prefix_of range.device number) input))) had did.begun in
        begun number taken then bytes input (appended old.stream.taken new.stream.taken taken then bytes was is grew) (void number refl) front
    of_works outcome voids told void never = absurd never

    pub of_stream : (history : List operation.Entry) (status : ℕ) (line line_then : Printed)
        → HasSealedStream under place old new (terms_of range 1) history status line line_then → WritesStream taken then
    of_stream history status line line_then sealed =
        let here = line_of stream_name sealed.outcome in
        of_works sealed.outcome sealed.piped.voids
        (λ number bytes so. sealed.numbered.inside 0 number bytes stream_name (ap (λ (o : FileOutcome). Some (line_of stream_name o)) so))
        (λ number so. granted_inside (terms_of range 1) history number sealed.legal
        (void_granted (here ∷ []) history number (subst (λ v. Accounts (here ∷ []) v history) so sealed.piped.accounts)))
        sealed.piped.works
