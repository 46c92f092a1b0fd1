-- Files in turn, over a folder that keeps a record: what was printed and added so far, and with the next one.
use Rattle.std.proofs.Common.{◌≡◌, ℕ, refl, sym, ap, subst, ◌∙◌, List, [], ◌∷◌, ◌++◌, append-nil, Option, Some, None, flat_map}
use Rattle.std.proofs.Common.{arith}
use Rattle.std.proofs.lemmas.Grind.{flat_map-append}
use Rattle.std.proofs.lemmas.List.{map-append}
use Rattle.std.proofs.lemmas.List.Elements.{All-push}
use Rattle.folder_core.specs.Record.{Entry, RunRecord}
use Rattle.folder_core.specs.Changes.{IsIdle}
use Rattle.folder_core.specs.Growth.{Grows}
use Rattle.folder_core.proofs.Growth.{grows_on}
use Rattle.command_core.specs.declared.line.FileOutcome.{FileOutcome}
use Rattle.command_core.specs.Lines.{FileLine}
use Rattle.command_core.specs.Files.{AddsFiles, FileEntries, HaveAdded}
use Rattle.command_core.specs.Turns.{Printed}
use Rattle.command_core.specs.Work.{AreTold}
use Rattle.command_core.proofs.Puts.{idle_grows}
use Rattle.command_core.proofs.Telling.{nothing_told}

no_files : (adds : List ℕ → FileOutcome → List Entry → Type 0) (rest : Option RunRecord) → Grows (AddsFiles adds []) rest rest
no_files adds None = tt
no_files adds (Some r) = (
  [],
  record { files = []; lined = refl; each = λ k d below. absurd (omega (arith, below)); joined = refl },
  ap (λ l. record r { entries = l }) (sym (append-nil r.entries)),
)

-- one more file
files_more : (adds : List ℕ → FileOutcome → List Entry → Type 0) (lines : List FileLine) (line : FileLine)
    (before between after : Option RunRecord) → Grows (AddsFiles adds lines) before between
    → Grows (adds line.name line.outcome) between after → Grows (AddsFiles adds (lines ++ line ∷ [])) before after
files_more adds lines line before between after added next =
    grows_on (AddsFiles adds lines) (adds line.name line.outcome) (AddsFiles adds (lines ++ line ∷ [])) (λ new more d is.
    let file : FileEntries = record { line = line; entries = more } in record {
      files = d.files ++ file ∷ [];
      lined = map-append (λ (f : FileEntries). f.line) d.files (file ∷ []) ∙ ap (λ l. l ++ line ∷ []) d.lined;
      each = All-push (λ (f : FileEntries). adds f.line.name f.line.outcome f.entries) d.files file d.each is;
      joined = ap (λ l. l ++ more) d.joined ∙ ap (λ l. flat_map (λ (f : FileEntries). f.entries) d.files ++ l)
          (sym (append-nil more))
          ∙ sym (flat_map-append (λ (f : FileEntries). f.entries) d.files (file ∷ []));
    }) before between after added next

-- no file was processed
pub none_added : (fits : List ℕ → FileOutcome → Type 0) (adds : List ℕ → FileOutcome → List Entry → Type 0) (old : Printed)
    (rest : Option RunRecord) → HaveAdded fits adds [] 0 old old rest rest
none_added fits adds old rest = record {
  lines = [];
  named = refl;
  fitting = λ k d below. absurd (omega (arith, below));
  told = nothing_told old.taken old.failures;
  added = no_files adds rest;
}

-- one more file was processed
pub added_more : (fits : List ℕ → FileOutcome → Type 0) (adds : List ℕ → FileOutcome → List Entry → Type 0)
    (names names' : List (List ℕ)) (line : FileLine) (status status' : ℕ) (old mid new : Printed)
    (before between after : Option RunRecord)
    → (w : HaveAdded fits adds names status old mid before between) → fits line.name line.outcome
    → Grows (adds line.name line.outcome) between after
    → AreTold status' (w.lines ++ line ∷ []) old.taken new.taken old.failures new.failures → names ++ line.name ∷ [] ≡ names'
    → HaveAdded fits adds names' status' old new before after
added_more fits adds names names' line status status' old mid new before between after w fit next lines longer = record {
  lines = w.lines ++ line ∷ [];
  added = files_more adds w.lines line before between after w.added next;
  named = map-append (λ (l : FileLine). l.name) w.lines (line ∷ []) ∙ ap (λ l. l ++ line.name ∷ []) w.named ∙ longer;
  fitting = All-push (λ (l : FileLine). fits l.name l.outcome) w.lines line w.fitting fit;
  told = lines;
}

-- of equal names
pub same_names : (fits : List ℕ → FileOutcome → Type 0) (adds : List ℕ → FileOutcome → List Entry → Type 0)
    (names names' : List (List ℕ)) (status : ℕ) (old new : Printed) (before after : Option RunRecord)
    → names ≡ names' → HaveAdded fits adds names status old new before after → HaveAdded fits adds names' status old new before after
same_names fits adds names names' status old new before after same w =
    subst (λ l. HaveAdded fits adds l status old new before after) same w

-- nothing is in hand after them
pub idle_added : (fits : List ℕ → FileOutcome → Type 0) (adds : List ℕ → FileOutcome → List Entry → Type 0)
    (names : List (List ℕ)) (status : ℕ) (old new : Printed) (before after : Option RunRecord)
    → HaveAdded fits adds names status old new before after → IsIdle before → IsIdle after
idle_added fits adds names status old new before after w idle = idle_grows (AddsFiles adds w.lines) before after w.added idle
