-- A container opens to the plaintext that was sealed, over runs that sealed it and calls that opened it.
use Rattle.std.proofs.Common.{◌≡◌, inl, inr, ℕ, ◌≤◌, ◌++◌, List, [], ◌∷◌, length, All, Option, Some, Ok, refl, sym, ap, ◌∙◌, subst, arith, length-append}
use Rattle.std.proofs.lemmas.List.{append_cancel_left}
use Rattle.std.proofs.lemmas.List.Elements.{All-weaker}
use Rattle.std.specs.Prelude.{IfSome, flat_map, slice_get}
use Rattle.io_core.specs.Streams.{Appends}
use Rattle.io_core.specs.Views.{IoView}
use Rattle.sealing_core.specs.Piped.{HasPipedContainer}
use Rattle.container_core.specs.Chunks.{chunks}
use Rattle.container_core.specs.Container.{container, header_of, shape_in}
use Rattle.container_core.specs.Opening.{opening}
use Rattle.container_core.specs.Shape.{IsShape, ShapeView, size_of}
use Rattle.container_core.specs.Stream.{prefix_in, stream}
use Rattle.container_core.proofs.HeaderLemmas.{length-header_of, length-prefix_in}
use Rattle.command_core.specs.declared.line.FileOutcome.{FileOutcome}
use Rattle.command_core.specs.Files.{AddsFiles, FileEntries}
use Rattle.command_core.specs.Work.{output_for}
use Rattle.folder_core.specs.Growth.{Grows, with_entries}
use Rattle.folder_core.specs.Record.{Entry, Happened, Output, Read, Repeated, RunRecord, Unread}
use Rattle.journal_core.specs.Range.{prefix_of}
use Rattle.sealer_core.specs.Piping.{WorksStream}
use Rattle.sealer_core.specs.Sealing.{SealedUnder, container_by, sealed_name}
use Rattle.sealer_core.specs.Restored.{HasOpenedFiles, HasSealedFiles, IsFinishedAfter, IsFinishedIn, IsOpenedIn, WasOpened, WasSealed}
use Rattle.sealer_core.proofs.Finished.{Seals, file_sealed}
use Rattle.sealer_core.proofs.Opened.{EndWell, IsReadingOf, Opens, all_next, ends_after, ends_in, file_opened}

-- ---- files

-- the entries of a run or a call are those of its lines
of_lines : (Ends : Entry → Output → Type 0) (adds : List ℕ → FileOutcome → List Entry → Type 0)
    → ((name : List ℕ) (outcome : FileOutcome) (new : List Entry) → adds name outcome new → EndWell Ends new)
    → (before : RunRecord) (entries : List Entry) (lines : _) → Grows (AddsFiles adds lines) (Some before) (Some (with_entries entries before)) → EndWell Ends entries
of_lines Ends adds each before entries lines (new, added, is) =
    let joined : entries ≡ flat_map (λ (f : FileEntries). f.entries) added.files =
    append_cancel_left before.entries entries new (ap (λ (r : RunRecord). r.entries) is) ∙ added.joined in
    subst (EndWell Ends) (sym joined) (all_next Ends added.files (All-weaker (λ (f : FileEntries). adds f.line.name f.line.outcome f.entries) (λ (f : FileEntries). EndWell Ends f.entries)
    (λ f it. each f.line.name f.line.outcome f.entries it) added.files added.each))

sealed_entries : (under : SealedUnder) (entries : List Entry) → HasSealedFiles under entries → EndWell (Seals under) entries
sealed_entries under entries (lawful, names, terms, history, status, old, new, before, sealed) =
    of_lines (Seals under) _ (file_sealed under) before entries sealed.sealed.worked.lines sealed.sealed.worked.added

opened_entries : (key : List ℕ) (to : Option (List ℕ)) (entries : List Entry) → HasOpenedFiles key to entries → (most : ℕ) × (label : Option (List ℕ)) × EndWell (Opens key most label to) entries
opened_entries key to entries (names, most, label, status, old, new, before, added) =
    (most, label, of_lines (Opens key most label to) _ (file_opened key most label to) before entries added.lines added.added)

pub each_sealed : (under : SealedUnder) (entries : List Entry) (output bytes : List ℕ) → HasSealedFiles under entries → IsFinishedIn entries output bytes
    → (file : List ℕ) × (input : List ℕ) × (number : ℕ) × (output ≡ sealed_name file) × (bytes ≡ container_by under number input)
    × IsFinishedAfter (Happened (Read file input)) entries output bytes
each_sealed under entries output bytes run at =
    let (last, content, (file, input, number, read, named, count, held), after) = ends_in (Seals under) (Happened (Unread [])) entries output bytes
    (λ output (file, input, number, is, named, count, held). cc) (λ last output ends. ends.5) (sealed_entries under entries run) at in
    (file, input, number, named, held, subst (λ e. IsFinishedAfter e entries output bytes) read after)

pub each_opened : (key : List ℕ) (to : Option (List ℕ)) (entries : List Entry) (output plain : List ℕ) → HasOpenedFiles key to entries → IsFinishedIn entries output plain
    → (file : List ℕ) × (bytes : List ℕ) × (most : ℕ) × (output ≡ output_for to file) × IsOpenedIn to entries file bytes plain × (opening key most bytes ≡ Ok plain)
each_opened key to entries output plain call at =
    let (most, label, well) = opened_entries key to entries call in
    let (last, content, (file, bytes, read, named, count, opens), after) = ends_in (Opens key most label to) (Happened (Unread [])) entries output plain
    (λ output (file, bytes, is, named, count, opens). none file bytes is) (λ last output ends. ends.4) well at in
    (file, bytes, most, named, opened_in to entries file bytes output plain last read named after, opens)
  where
    none : (file bytes : List ℕ) → IsReadingOf file bytes (Happened (Unread [])) → ⊥
    none file bytes (inl is) = cc
    none file bytes (inr is) = cc

    opened_in : (to : Option (List ℕ)) (entries : List Entry) (file bytes output plain : List ℕ) (last : Entry) → IsReadingOf file bytes last → output ≡ output_for to file
        → IsFinishedAfter last entries output plain → IsOpenedIn to entries file bytes plain
    opened_in to entries file bytes output plain last (inl is) named after =
        inl (subst (λ n. IsFinishedAfter (Happened (Read file bytes)) entries n plain) named (subst (λ e. IsFinishedAfter e entries output plain) is after))
    opened_in to entries file bytes output plain last (inr is) named after =
        inr (subst (λ n. IsFinishedAfter (Happened (Repeated file bytes)) entries n plain) named (subst (λ e. IsFinishedAfter e entries output plain) is after))

-- an entry has one reading
one_reading : (one other bytes last : List ℕ) (entry : Entry) → IsReadingOf one bytes entry → IsReadingOf other last entry → bytes ≡ last
one_reading one other bytes last entry (inl this) (inl that) = cc
one_reading one other bytes last entry (inl this) (inr that) = absurd (cc)
one_reading one other bytes last entry (inr this) (inl that) = absurd (cc)
one_reading one other bytes last entry (inr this) (inr that) = cc

-- ---- what was sealed is a container, and what was opened is what it opens to

long_enough : (key : List ℕ) (shape : ShapeView) (prefix plain : List ℕ) → length prefix ≡ 7 → 17 ≤ length (container key shape prefix plain)
unfolding container
long_enough key shape prefix plain seven =
    let header = length-header_of key prefix shape seven in
    let all = length-append (header_of key shape prefix) (stream key (header_of key shape prefix) 0 (chunks (size_of shape) plain)) in omega arith

abbrev IsContainerOf : SealedUnder → List ℕ → List ℕ → Type 0
IsContainerOf under input bytes = IsShape under.shape × (number : ℕ) × (bytes ≡ container_by under number input)

sealed_stream : (under : SealedUnder) (input taken bytes : List ℕ) (old new : IoView) (number count : ℕ) → old.left ≡ Some input → old.taken ≡ Some taken → new.taken ≡ Some (taken ++ bytes)
    → HasPipedContainer under.key under.shape (prefix_of under.device number) under.most old new (Ok count) → bytes ≡ container_by under number input
sealed_stream under input taken bytes old new number count had took then piped =
    let whole = container_by under number input in
    let known = subst (λ (l : Option (List ℕ)). IfSome l (λ input. Appends old.taken new.taken (container_by under number input))) had piped.written in
    let grew = subst (λ (t : Option (List ℕ)). Appends (Some taken) t whole) then (subst (λ (t : Option (List ℕ)). Appends t new.taken whole) took known) in
    append_cancel_left taken bytes whole grew

is_container : (under : SealedUnder) (input bytes : List ℕ) → WasSealed under input bytes → IsContainerOf under input bytes
is_container under input bytes (inl (entries, file, run, after)) =
    let (content, (other, read, number, is, named, count, held)) = ends_after (Seals under) (Happened (Read file input)) entries (sealed_name file) bytes (sealed_entries under entries run) after in
    let same : read ≡ input = cc in
    (run.0, number, held ∙ ap (container_by under number) same)
is_container under input bytes (inr (lawful, place, old, new, terms, history, status, line, line_then, sealed, number, count, says, had, taken, took, then)) =
    let works = subst (λ (o : FileOutcome). WorksStream under place old new o sealed.piped.voids) says sealed.piped.works in
    (lawful, number, sealed_stream under input taken bytes old.stream new.stream number count had took then works.1.1)

-- the second entry of these is one reading
second_is : (name other bytes last : List ℕ) (one end : Entry) (new worked : List Entry) → slice_get new 1 ≡ Some (Happened (Repeated name bytes))
    → new ≡ worked ++ end ∷ [] → worked ≡ one ∷ Happened (Repeated other last) ∷ [] → last ≡ bytes
second_is name other bytes last one end new worked at is did =
    let there : slice_get (one ∷ Happened (Repeated other last) ∷ end ∷ []) 1 ≡ Some (Happened (Repeated name bytes)) =
    sym (ap (λ (l : List Entry). slice_get l 1) (is ∙ ap (λ (l : List Entry). l ++ end ∷ []) did)) ∙ at in cc

file_opens : (key : List ℕ) (to : Option (List ℕ)) (entries : List Entry) (file bytes plain : List ℕ) (reading : Entry) → HasOpenedFiles key to entries → IsReadingOf file bytes reading
    → IsFinishedAfter reading entries (output_for to file) plain → (most : ℕ) × (opening key most bytes ≡ Ok plain)
file_opens key to entries file bytes plain reading call is after =
    let (most, label, well) = opened_entries key to entries call in
    let (content, (other, last, read, named, count, opens)) = ends_after (Opens key most label to) reading entries (output_for to file) plain well after in
    (most, subst (λ (b : List ℕ). opening key most b ≡ Ok plain) (one_reading other file last bytes reading read is) opens)

opens_to : (key bytes plain : List ℕ) → WasOpened key bytes plain → (most : ℕ) × (opening key most bytes ≡ Ok plain)
opens_to key bytes plain (inl (to, entries, file, call, inl after)) = file_opens key to entries file bytes plain (Happened (Read file bytes)) call (inl refl) after
opens_to key bytes plain (inl (to, entries, file, call, inr after)) = file_opens key to entries file bytes plain (Happened (Repeated file bytes)) call (inr refl) after
opens_to key bytes plain (inr (most, label, name, taken, n, new, content, (worked, (header, first, last, whole, (has, good, did, held), same, opened, count, grew), closed), at)) =
    let last_is = second_is name name bytes last _ _ new worked at closed did in
    (most, subst (λ (b : List ℕ). opening key most b ≡ Ok plain) last_is (opened.0 ∙ ap (λ p. Ok p) (sym (append_cancel_left taken plain whole grew))))

-- what the two laws of containers say of a key
abbrev pub OpensAlone : List ℕ → Type 0
OpensAlone key = (bytes plain : List ℕ) (most : ℕ) → opening key most bytes ≡ Ok plain
    → IsShape (shape_in bytes) × (bytes ≡ container key (shape_in bytes) (prefix_in bytes) plain)

abbrev pub Differ : List ℕ → Type 0
Differ key = (prefix other plain another : List ℕ) (shape form : ShapeView) → IsShape shape → IsShape form → length prefix ≡ 7 → length other ≡ 7
    → container key shape prefix plain ≡ container key form other another → plain ≡ another

pub opened_is : (under : SealedUnder) (input bytes plain : List ℕ) → OpensAlone under.key → Differ under.key → WasSealed under input bytes → WasOpened under.key bytes plain → plain ≡ input
opened_is under input bytes plain opens differ sealed opened =
    let (lawful, number, held) = is_container under input bytes sealed in
    let (most, to) = opens_to under.key bytes plain opened in
    let prefix = prefix_of under.device number in
    let whole = container_by under number input in
    let (is, same) = opens whole plain most (subst (λ (b : List ℕ). opening under.key most b ≡ Ok plain) held to) in
    sym (differ prefix (prefix_in whole) input plain under.shape (shape_in whole) lawful is refl
    (length-prefix_in whole (long_enough under.key under.shape prefix input refl)) same)
