-- An output that was finished comes right behind a reading of its own file: for each file what is added begins with no
-- output, and what is added goes file by file. So what holds of each output and the entry right before it, in what comes
-- for one file, holds in what comes for all. Of `open_all`: the output has what that reading opens to.
use Rattle.std.proofs.Common.{◌≡◌, ◌≢◌, ◌⊎◌, inl, inr, ℕ, refl, sym, ap, ◌∙◌, subst, List, [], ◌∷◌, ◌++◌, All, Option, Ok, append_assoc}
use Rattle.std.specs.Prelude.{⊤, flat_map}
use Rattle.std.proofs.lemmas.List.Elements.{All-head, All-tail}
use Rattle.container_core.specs.Opening.{opening}
use Rattle.container_core.specs.declared.fault.OpenFault.TheVariants as open_fault
use Rattle.folder_core.specs.declared.fault.FolderFault.{FolderFault}
use Rattle.folder_core.specs.declared.fault.FolderFault.TheVariants as refusal
use Rattle.folder_core.specs.Record.{Closed, Content, Created, Entry, Finished, GivenUp, Happened, Output, Read, Refused, Repeated}
use Rattle.command_core.specs.declared.line.FileFault.{FileFault}
use Rattle.command_core.specs.declared.line.FileFault.TheVariants.{CannotOpen, NoSuffix, OutputExists, CannotCreate, Unopened, Changed}
use Rattle.command_core.specs.declared.line.FileOutcome.{FileOutcome}
use Rattle.command_core.specs.declared.line.FileOutcome.TheVariants.{Opened, Failed}
use Rattle.command_core.specs.Putting.{closed_output, once_if}
use Rattle.command_core.specs.Files.{AddsBrokenOff, AddsRefused, AddsOpened, AddsOpenedRead, FileEntries}
use Rattle.command_core.specs.Work.{output_for, reading_failed}
use Rattle.sealer_core.specs.Restored.{IsFinishedAfter, IsFinishedIn}

pub unfinished : GivenUp ≡ Finished → ⊥
unfinished is = cc

-- ---- an output that was finished, and the entry right before it

-- the relation that they have
module _ (Ends : Entry → Output → Type 0) where
  abbrev pub IsNext : Entry → Entry → Type 0
  IsNext previous (Happened event) = ⊤
  IsNext previous (Created output) = output.state ≡ Finished → Ends previous output

  abbrev pub AreNext : Entry → List Entry → Type 0
  AreNext previous [] = ⊤
  AreNext previous (entry ∷ entries) = IsNext previous entry × AreNext entry entries

  -- whatever came before them
  abbrev pub EndWell : List Entry → Type 0
  EndWell entries = (previous : Entry) → AreNext previous entries

  pub next_append : (previous : Entry) (one two : List Entry) → AreNext previous one → EndWell two → AreNext previous (one ++ two)
  next_append previous [] two none others = others previous
  next_append previous (entry ∷ one) two (first, rest) others = (first, next_append entry one two rest others)

  pub all_next : (files : List FileEntries) → All (λ (f : FileEntries). EndWell f.entries) files → EndWell (flat_map (λ (f : FileEntries). f.entries) files)
  all_next [] all = λ previous. tt
  all_next (f ∷ files) all = λ previous. next_append previous f.entries (flat_map (λ (f : FileEntries). f.entries) files)
      (All-head (λ (f : FileEntries). EndWell f.entries) f files all previous) (all_next files (All-tail (λ (f : FileEntries). EndWell f.entries) f files all))

  next_at : (previous : Entry) (before rest : List Entry) → AreNext previous (before ++ rest) → (last : Entry) × AreNext last rest
  next_at previous [] rest are = (previous, are)
  next_at previous (entry ∷ before) rest are = next_at entry before rest are.1

  -- an entry is the first of these, or comes right behind another
  next_of : (previous : Entry) (before : List Entry) (entry : Entry) (after : List Entry) → AreNext previous (before ++ entry ∷ after)
      → ((before ≡ []) × IsNext previous entry) ⊎ ((front : List Entry) × (last : Entry) × (before ≡ front ++ last ∷ []) × IsNext last entry)
  next_of previous [] entry after are = inl (refl, are.0)
  next_of previous (first ∷ before) entry after are = elim (next_of first before entry after are.1) [
    | inl (none, next) ↦ inr ([], first, ap (λ l. first ∷ l) none, next)
    | inr (front, last, ends, next) ↦ inr (first ∷ front, last, ap (λ l. first ∷ l) ends, next)
  ]

  -- what was finished right after an entry
  pub ends_after : (entry : Entry) (entries : List Entry) (name bytes : List ℕ) → EndWell entries → IsFinishedAfter entry entries name bytes
      → (content : Content) × Ends entry (record { name = name; content = content; bytes = bytes; failures = 0; state = Finished })
  ends_after entry entries name bytes well (before, content, after, same) =
      let (last, next) = next_at entry before (entry ∷ closed_output name content bytes 0 Finished ∷ after) (subst (AreNext entry) same (well entry)) in
      (content, next.1.0 refl)

  -- where no output is finished right after this, one that was finished was so right after another entry
  pub ends_in : (none : Entry) (entries : List Entry) (name bytes : List ℕ) → ((output : Output) → Ends none output → ⊥)
      → ((last : Entry) (output : Output) → Ends last output → output.failures ≡ 0) → EndWell entries → IsFinishedIn entries name bytes
      → (last : Entry) × (content : Content) × Ends last (record { name = name; content = content; bytes = bytes; failures = 0; state = Finished }) × IsFinishedAfter last entries name bytes
  ends_in none entries name bytes never whole well (before, content, failures, after, same) =
      elim (next_of none before (closed_output name content bytes failures Finished) after (subst (AreNext none) same (well none))) [
        | inl (first, next) ↦ absurd (never (record { name = name; content = content; bytes = bytes; failures = failures; state = Finished }) (next refl))
        | inr (front, last, ends, next) ↦ (
            let count : failures ≡ 0 = whole last (record { name = name; content = content; bytes = bytes; failures = failures; state = Finished }) (next refl) in (
              last,
              content,
              subst (λ n. Ends last (record { name = name; content = content; bytes = bytes; failures = n; state = Finished })) count (next refl),
              (
                front,
                content,
                after,
                same ∙ ap (λ l. l ++ closed_output name content bytes failures Finished ∷ after) ends ∙ append_assoc front (last ∷ []) (closed_output name content bytes failures Finished ∷ after)
                    ∙ ap (λ n. front ++ last ∷ closed_output name content bytes n Finished ∷ after) count,
              ),
            )
            )
      ]

-- ---- what `open_all` adds

-- a file of this name was read, at first or again, and has these bytes
abbrev pub IsReadingOf : List ℕ → List ℕ → Entry → Type 0
IsReadingOf file bytes entry = (entry ≡ Happened (Read file bytes)) ⊎ (entry ≡ Happened (Repeated file bytes))

module _ (key : List ℕ) (most : ℕ) (label to : Option (List ℕ)) where
  -- what was read opens to the output
  abbrev pub Opens : Entry → Output → Type 0
  Opens previous output = (file : List ℕ) × (bytes : List ℕ) × IsReadingOf file bytes previous
      × (output.name ≡ output_for to file) × (output.failures ≡ 0) × (opening key most bytes ≡ Ok output.bytes)

  refused_opened : (name : List ℕ) (cause : FolderFault) (new : List Entry) → AddsRefused key most label (output_for to name) name cause new → EndWell Opens new
  refused_opened name cause new (first, plain, readings, good, inl one, is) = λ previous.
      subst (AreNext Opens previous) (sym (is ∙ ap (λ l. l ++ Happened (Refused (output_for to name) cause) ∷ []) one)) (tt, (tt, tt))
  refused_opened name cause new (first, plain, readings, good, inr (last, two), is) = λ previous.
      subst (AreNext Opens previous) (sym (is ∙ ap (λ l. l ++ Happened (Refused (output_for to name) cause) ∷ []) two)) (tt, (tt, (tt, tt)))

  broken_opened : (are : List ℕ → List ℕ → Type 0) (name : List ℕ) (fault : FileFault) (new : List Entry)
      → AddsBrokenOff are key most label (output_for to name) name fault new → EndWell Opens new
  broken_opened are name fault new (header, first, last, written, related, has, good, begun, is) = λ previous.
      subst (AreNext Opens previous) (sym is) (tt, (tt, ((λ same. absurd (unfinished same)), tt)))

  read_opened : (name : List ℕ) (outcome : FileOutcome) (new : List Entry)
      → AddsOpenedRead key most label (output_for to name) name outcome new → EndWell Opens new
  read_opened name (Opened n) new (plain, count, inl (input, good, is)) = λ previous.
      subst (AreNext Opens previous) (sym is) (tt, ((λ same. (name, input, inl refl, refl, refl, good.0)), tt))
  read_opened name (Opened n) new (plain, count, inr (header, first, last, whole, has, too, good, is)) = λ previous.
      subst (AreNext Opens previous) (sym is) (tt, (tt, ((λ same. (name, last, inr refl, refl, refl, good.0)), tt)))
  read_opened name (Failed (Unopened open_fault.Write)) new (inl (input, plain, written, good, front, is)) = λ previous.
      subst (AreNext Opens previous) (sym is) (tt, ((λ same. absurd (unfinished same)), tt))
  read_opened name (Failed (Unopened open_fault.Write)) new (inr broken) = broken_opened (λ _ _. ⊤) name (Unopened open_fault.Write) new broken
  read_opened name (Failed (Unopened open_fault.Read)) new (inl (input, is)) = λ previous. subst (AreNext Opens previous) (sym is) (tt, tt)
  read_opened name (Failed (Unopened open_fault.Read)) new (inr (inl (first, plain, good, is))) = λ previous.
      subst (AreNext Opens previous) (sym is) (tt, (tt, tt))
  read_opened name (Failed (Unopened open_fault.Read)) new (inr (inr broken)) = broken_opened (λ _ _. ⊤) name (Unopened open_fault.Read) new broken
  read_opened name (Failed (Unopened open_fault.OutOfMemory)) new (inl (input, good, is)) = λ previous. subst (AreNext Opens previous) (sym is) (tt, tt)
  read_opened name (Failed (Unopened open_fault.OutOfMemory)) new (inr broken) =
      broken_opened (λ _ _. ⊤) name (Unopened open_fault.OutOfMemory) new broken
  read_opened name (Failed Changed) new broken = broken_opened (λ first last. first ≢ last) name Changed new broken
  read_opened name (Failed OutputExists) new refused = refused_opened name refusal.Exists new refused
  read_opened name (Failed CannotCreate) new refused = refused_opened name refusal.Failed new refused
  read_opened name (Failed fault) new is = λ previous. subst (AreNext Opens previous) (sym is.2) (tt, tt)
  read_opened name outcome new is = absurd is

  pub file_opened : (name : List ℕ) (outcome : FileOutcome) (new : List Entry) → AddsOpened key most label (output_for to name) name outcome new → EndWell Opens new
  file_opened name (Failed NoSuffix) new is = λ previous. subst (AreNext Opens previous) (sym is) tt
  file_opened name (Failed CannotOpen) new is = λ previous. subst (AreNext Opens previous) (sym is) (tt, tt)
  file_opened name outcome new closed = λ previous. subst (AreNext Opens previous) (sym closed.2)
      (next_append Opens previous closed.0 (Happened (Closed name (once_if (reading_failed outcome))) ∷ [])
      (read_opened name outcome closed.0 closed.1 previous) (λ entry. (tt, tt)))
