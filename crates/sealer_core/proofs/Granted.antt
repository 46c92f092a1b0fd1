-- The outputs of a run that ended and the history of its ledger agree: file by file, a number has an output where the
-- line says that it was sealed, or where the output was given up.
use Rattle.std.proofs.Common.{◌≡◌, ℕ, ◌+◌, ◌∙◌, cond, nat_eq, List, [], ◌∷◌, ◌++◌, map, All, Some, refl, sym, ap, subst, arith}
use Rattle.std.specs.Prelude.{flat_map}
use Rattle.std.proofs.lemmas.Grind.{flat_map-append}
use Rattle.std.proofs.lemmas.List.{append_cancel_left}
use Rattle.std.proofs.lemmas.List.Elements.{All-head, All-tail}
use Rattle.std.proofs.lemmas.List.Sums.{sum_by-append, sum_by-cons}
use Rattle.folder_core.specs.Growth.{with_entries}
use Rattle.folder_core.specs.Record.{Checked, Closed, Container, Content, Entry, Finished, GivenUp, Happened, Nothing, Plain, Read, RunRecord, begins, times_begun}
use Rattle.folder_core.proofs.Entries.{times_cons}
use Rattle.journal_core.specs.declared.entry.Entry as operation
use Rattle.journal_core.specs.declared.terms.Terms.{Terms}
use Rattle.journal_core.specs.History.{times_granted}
use Rattle.command_core.specs.declared.line.FileFault.{FileFault}
use Rattle.command_core.specs.declared.line.FileFault.TheVariants.{CannotOpen, OutputExists, CannotCreate, OutOfMemory}
use Rattle.command_core.specs.declared.line.FileOutcome.{FileOutcome}
use Rattle.command_core.specs.declared.line.FileOutcome.TheVariants.{Sealed, Failed}
use Rattle.command_core.specs.Files.{FileEntries}
use Rattle.command_core.specs.Lines.{FileLine}
use Rattle.command_core.specs.Putting.{closed_output, once_if}
use Rattle.command_core.specs.Turns.{Printed}
use Rattle.sealer_core.specs.Sealing.{AddsRead, AddsSealed, HasSealed, HoldsSome, PutsSealed, SealedUnder, container_by, given_up_in, is_unread, is_unwritten, number_given_up, sealed_name, tells_of, times_in, times_told}
use Rattle.sealer_core.proofs.Numbering.{in_append}

module _ (n : ℕ) where
  -- how many of the entries have the number, as it should be by this outcome
  abbrev Agrees : FileOutcome → List Entry → Type 0
  Agrees outcome entries = times_begun n entries ≡ cond (tells_of n outcome) 1 0 + times_in n (given_up_in entries)

  in_one : (number : ℕ) → times_in n (number ∷ []) ≡ cond (nat_eq n number) 1 0 + 0
  in_one number = sum_by-cons (λ (m : ℕ). cond (nat_eq n m) 1 0) number []

  one_begun : (entry : Entry) → times_begun n (entry ∷ []) ≡ cond (begins n entry) 1 0 + 0
  one_begun entry = times_cons n entry []

  -- an output that was given up
  of_given_up : (under : SealedUnder) (output input held : List ℕ) (content : Content) (failures : ℕ) (fault : FileFault) → HoldsSome under input content held
      → Agrees (Failed fault) (closed_output output content held failures GivenUp ∷ [])
  of_given_up under output input held Nothing failures fault has =
      let one = one_begun (closed_output output Nothing held failures GivenUp) in omega arith
  of_given_up under output input held (Container number shape) failures fault has =
      let one = one_begun (closed_output output (Container number shape) held failures GivenUp) in
      let in_it = in_one number in omega arith
  of_given_up under output input held (Plain key whole) failures fault has = absurd has
  of_given_up under output input held (Checked key header last) failures fault has = absurd has

  of_put : (under : SealedUnder) (output input : List ℕ) (outcome : FileOutcome) (put : Entry) → PutsSealed under output input outcome put
      → Agrees outcome (put ∷ [])
  of_put under output input (Sealed number bytes) put (long, within, is) = subst (λ e. Agrees (Sealed number bytes) (e ∷ [])) (sym is)
      (one_begun (closed_output output (Container number under.shape) (container_by under number input) 0 Finished))
  of_put under output input (Failed OutputExists) put is = subst (λ e. Agrees (Failed OutputExists) (e ∷ [])) (sym is) refl
  of_put under output input (Failed CannotCreate) put is = subst (λ e. Agrees (Failed CannotCreate) (e ∷ [])) (sym is) refl
  of_put under output input (Failed fault) put (content, held, has, why, is) = subst (λ e. Agrees (Failed fault) (e ∷ [])) (sym is)
      (of_given_up under output input held content (once_if (is_unwritten fault)) fault has)
  of_put under output input outcome put never = absurd never

  begun_append : (one two : List Entry) → times_begun n (one ++ two) ≡ times_begun n one + times_begun n two
  begun_append one two = sum_by-append (λ (e : Entry). cond (begins n e) 1 0) one two

  given_up_append : (one two : List Entry) → times_in n (given_up_in (one ++ two)) ≡ times_in n (given_up_in one) + times_in n (given_up_in two)
  given_up_append one two = ap (times_in n) (flat_map-append number_given_up one two) ∙ in_append n (given_up_in one) (given_up_in two)

  -- a file that was read
  of_read : (under : SealedUnder) (name : List ℕ) (outcome : FileOutcome) (new : List Entry) → AddsRead under name outcome new → Agrees outcome new
  of_read under name outcome new (input, put, puts, is) =
      let last : Entry = Happened (Closed name (once_if (is_unread outcome))) in
      let first : Entry = Happened (Read name input) in
      let own = of_put under (sealed_name name) input outcome put puts in
      let begun = times_cons n first (put ∷ last ∷ []) in
      let both = begun_append (put ∷ []) (last ∷ []) in
      let given = given_up_append (put ∷ []) (last ∷ []) in
      let end = one_begun last in
      subst (Agrees outcome) (sym is) (omega arith)

  of_file : (under : SealedUnder) (name : List ℕ) (outcome : FileOutcome) (new : List Entry) → AddsSealed under name outcome new → Agrees outcome new
  of_file under name (Failed OutOfMemory) new is = subst (Agrees (Failed OutOfMemory)) (sym is) refl
  of_file under name (Failed CannotOpen) new is = subst (Agrees (Failed CannotOpen)) (sym is) refl
  of_file under name outcome new read = of_read under name outcome new read

  abbrev IsFile : SealedUnder → FileEntries → Type 0
  IsFile under f = AddsSealed under f.line.name f.line.outcome f.entries

  abbrev lines_of : List FileEntries → List FileLine
  lines_of files = map (λ (f : FileEntries). f.line) files

  abbrev entries_of : List FileEntries → List Entry
  entries_of files = flat_map (λ (f : FileEntries). f.entries) files

  of_files : (under : SealedUnder) (files : List FileEntries) → All (IsFile under) files
      → times_begun n (entries_of files) ≡ times_told n (lines_of files) + times_in n (given_up_in (entries_of files))
  of_files under [] all = refl
  of_files under (f ∷ files) all =
      let own = of_file under f.line.name f.line.outcome f.entries (All-head (IsFile under) f files all) in
      let others = of_files under files (All-tail (IsFile under) f files all) in
      let begun = begun_append f.entries (entries_of files) in
      let given = given_up_append f.entries (entries_of files) in
      let told = sum_by-cons (λ (l : FileLine). cond (tells_of n l.outcome) 1 0) f.line (lines_of files) in omega arith

-- the numbers of the outputs of a run are those that it was granted
pub of_run : (under : SealedUnder) (names : List (List ℕ)) (terms : Terms) (history : List operation.Entry) (status : ℕ) (old new : Printed)
    (before : RunRecord) (added : List Entry) → HasSealed under names terms history status old new (Some before) (Some (with_entries added before))
    → (number : ℕ) → times_begun number added ≡ times_granted number history
of_run under names terms history status old new before added has number =
    let s = has.sealed in
    let (entries, adds, joined) = s.worked.added in
    let (more, voids, joined_too) = s.given_up in
    let all : added ≡ entries_of number adds.files =
    append_cancel_left before.entries added entries (ap (λ (r : RunRecord). r.entries) joined) ∙ adds.joined in
    let same : added ≡ more = append_cancel_left before.entries added more (ap (λ (r : RunRecord). r.entries) joined_too) in
    let begun = ap (times_begun number) all ∙ of_files number under adds.files adds.each in
    let told : times_told number (lines_of number adds.files) ≡ times_told number s.worked.lines = ap (times_told number) adds.lined in
    let given : times_in number (given_up_in (entries_of number adds.files)) ≡ times_in number s.voids =
    ap (λ l. times_in number (given_up_in l)) (sym all ∙ same) ∙ ap (times_in number) (sym voids) in
    let void = s.accounts.voided number in
    let granted = s.accounts.granted number in omega arith
