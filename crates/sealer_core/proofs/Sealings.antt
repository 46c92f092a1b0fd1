-- One more group of files: what held of the sealed files so far holds with it.
use Rattle.std.proofs.Common.{◌≡◌, ◌∙◌, ℕ, List, [], ◌∷◌, ◌++◌, Option, refl, sym, ap₂, subst}
use Rattle.std.proofs.lemmas.List.{map-append}
use Rattle.std.proofs.lemmas.List.Elements.{All-append, All-nil}
use Rattle.journal_core.specs.declared.entry.Entry as journal
use Rattle.folder_core.specs.Record.{RunRecord}
use Rattle.folder_core.specs.Growth.{Grows}
use Rattle.folder_core.proofs.Growth.{grows_on}
use Rattle.command_core.specs.declared.line.FileFault.TheVariants.{OutOfMemory}
use Rattle.command_core.specs.declared.line.FileOutcome.{FileOutcome}
use Rattle.command_core.specs.declared.line.FileOutcome.TheVariants.{Failed}
use Rattle.command_core.specs.Files.{AddsFiles}
use Rattle.command_core.specs.Lines.{FileLine}
use Rattle.command_core.specs.Turns.{Printed}
use Rattle.command_core.proofs.Files.{grows_to}
use Rattle.command_core.proofs.Telling.{nothing_told}
use Rattle.sealer_core.specs.Group.{AddsLines, AreEnded, group_view, refused_lines}
use Rattle.sealer_core.specs.Sealing.{Accounts, AddsSealed, AreSealed, IsOfSealing, SealedUnder, given_up_in, line_of}
use Rattle.sealer_core.proofs.Owing.{let_go, nothing_held}
use Rattle.sealer_core.proofs.FileEnds.{files_append, given_up_more, no_lines, one_file}
use Rattle.sealer_core.proofs.SealedFile.{AddsVoid, nothing_grew}

-- ---- a group of one, or for which memory was refused

pub one_added : (under : SealedUnder) (name : List ℕ) (outcome : FileOutcome) (void : List ℕ) (before after : Option RunRecord)
    → Grows (AddsVoid under name outcome void) before after
    → Grows (AddsLines under (line_of name outcome ∷ []) void) before after
one_added under name outcome void before after grew =
    grows_to (AddsVoid under name outcome void) (AddsLines under (line_of name outcome ∷ []) void)
    (λ new (adds, is). (one_file (AddsSealed under) (line_of name outcome) new adds, is)) before after grew

refused_adds : (under : SealedUnder) (names : List (List ℕ)) → AddsFiles (AddsSealed under) (refused_lines names) []
refused_adds under [] = (no_lines under).0
refused_adds under (name ∷ names) =
    let line = line_of name (Failed OutOfMemory) in
    files_append (AddsSealed under) (line ∷ []) (refused_lines names) [] [] (one_file (AddsSealed under) line [] refl) (refused_adds under names)

pub refused_added : (under : SealedUnder) (names : List (List ℕ)) (before after : Option RunRecord) → after ≡ before
    → Grows (AddsLines under (refused_lines names) []) before after
refused_added under names before after same =
    subst (Grows (AddsLines under (refused_lines names) []) before) (sym same)
    (nothing_grew (AddsLines under (refused_lines names) []) before (refused_adds under names, refl))

-- ---- groups

-- before the first file
pub nothing_sealed : (under : SealedUnder) (operations : List journal.Entry) (old : Printed) (rest : Option RunRecord) → Accounts [] [] operations
    → AreSealed under [] operations 0 old old rest rest
nothing_sealed under operations old rest accounts = record {
  worked = record {
    lines = [];
    named = refl;
    fitting = All-nil (λ (l : FileLine). IsOfSealing l.outcome);
    told = nothing_told old.taken old.failures;
    added = nothing_grew (AddsFiles (AddsSealed under) []) rest (no_lines under).0;
  };
  voids = [];
  given_up = nothing_grew (λ added. [] ≡ given_up_in added) rest refl;
  accounts = accounts;
}

-- one more group
pub sealed_more : (under : SealedUnder) (earlier more : List (List ℕ)) (operations operations' : List journal.Entry) (status status' : ℕ) (old mid new : Printed)
    (before between after : Option RunRecord) → AreSealed under earlier operations status old mid before between
    → AreEnded (λ lines voids. Grows (AddsLines under lines voids) between after) more (group_view [] operations status mid) (group_view [] operations' status' new)
    → AreSealed under (earlier ++ more) operations' status' old new before after
sealed_more under earlier more operations operations' status status' old mid new before between after s e = record {
  worked = record {
    lines = s.worked.lines ++ e.lines;
    named = map-append (λ (l : FileLine). l.name) s.worked.lines e.lines ∙ ap₂ (λ a b. a ++ b) s.worked.named e.named;
    fitting = All-append (λ (l : FileLine). IsOfSealing l.outcome) s.worked.lines e.lines s.worked.fitting e.fitting;
    told = e.told s.worked.lines old.taken old.failures s.worked.told;
    added = grows_on (AddsFiles (AddsSealed under) s.worked.lines) (AddsLines under e.lines e.voids) (AddsFiles (AddsSealed under) (s.worked.lines ++ e.lines))
        (λ one two a b. files_append (AddsSealed under) s.worked.lines e.lines one two a b.0) before between after s.worked.added e.done;
  };
  voids = s.voids ++ e.voids;
  given_up = grows_on (λ added. s.voids ≡ given_up_in added) (AddsLines under e.lines e.voids) (λ added. s.voids ++ e.voids ≡ given_up_in added)
      (λ one two a b. ap₂ (λ x y. x ++ y) a b.1 ∙ sym (given_up_more one two)) before between after s.given_up e.done;
  accounts = let_go (s.worked.lines ++ e.lines) (s.voids ++ e.voids) operations'
      (e.accounts s.worked.lines s.voids (nothing_held s.worked.lines s.voids operations s.accounts));
}
