-- A file that is read, sealed and closed: what comes for it.
use Rattle.std.proofs.Common.{◌≡◌, ◌∙◌, ℕ, List, [], ◌∷◌, ◌++◌, Option, None, Some, refl, sym, ap, ap₂, subst, append-nil}
use Rattle.std.specs.Prelude.{IfSome}
use Rattle.io_core.specs.Streams.{counted}
use Rattle.folder_core.specs.Record.{Closed, Entry, Happened, Read, RunRecord, Unread}
use Rattle.folder_core.specs.Changes.{Becomes, Tells, TellsBytes, with_entry}
use Rattle.folder_core.specs.Growth.{Grows}
use Rattle.folder_core.proofs.Growth.{grows_by, grows_on}
use Rattle.command_core.specs.declared.line.FileFault.TheVariants as line
use Rattle.command_core.specs.declared.line.FileOutcome.{FileOutcome}
use Rattle.command_core.specs.declared.line.FileOutcome.TheVariants.{Failed}
use Rattle.command_core.specs.Putting.{once_if}
use Rattle.command_core.proofs.Files.{Reads, closes, nothing_closed, told_grows}
use Rattle.sealer_core.specs.Group.{PutsLeft}
use Rattle.sealer_core.specs.Sealing.{AddsSealed, PutsSealed, SealedUnder, given_up_in, is_unread, sealed_name}

-- What came for the file, and these are its void numbers.
abbrev pub AddsVoid : SealedUnder → List ℕ → FileOutcome → List ℕ → List Entry → Type 0
AddsVoid u name outcome void new = AddsSealed u name outcome new × (void ≡ given_up_in new)

-- ---- it isn't read

pub nothing_grew : (kind : List Entry → Type 0) (rest : Option RunRecord) → kind [] → Grows kind rest rest
nothing_grew kind None is = tt
nothing_grew kind (Some r) is = ([], is, ap (λ l. record r { entries = l }) (sym (append-nil r.entries)))

-- memory was refused
pub nothing_added : (u : SealedUnder) (name : List ℕ) (rest : Option RunRecord)
    → Grows (AddsVoid u name (Failed line.OutOfMemory) []) rest rest
nothing_added u name rest = nothing_grew (AddsVoid u name (Failed line.OutOfMemory) []) rest (refl, refl)

-- it can't be opened
pub unread_added : (u : SealedUnder) (name : List ℕ) (before after : Option RunRecord)
    → Becomes (with_entry (Happened (Unread name))) before after
    → Grows (AddsVoid u name (Failed line.CannotOpen) []) before after
unread_added u name before after came =
    grows_by (AddsVoid u name (Failed line.CannotOpen) []) (Happened (Unread name)) (refl, refl) before after came

-- ---- it is read

-- it was read, and this came for its output
abbrev Puts : SealedUnder → List ℕ → FileOutcome → List ℕ → List Entry → Type 0
Puts u name outcome void new = (input : List ℕ) × (put : Entry) × PutsSealed u (sealed_name name) input outcome put
    × (void ≡ given_up_in (put ∷ [])) × (new ≡ Happened (Read name input) ∷ put ∷ [])

put_read : (u : SealedUnder) (name : List ℕ) (left : Option (List ℕ)) (outcome : FileOutcome) (void : List ℕ)
    (before opened put : Option RunRecord) → TellsBytes (Read name) left before opened
    → Grows (PutsLeft u (sealed_name name) left outcome void) opened put → Grows (Puts u name outcome void) before put
put_read u name left outcome void before opened put tells puts =
    grows_on (Reads (Read name) left) (PutsLeft u (sealed_name name) left outcome void) (Puts u name outcome void)
    (λ a b (bytes, here, is) (input, entry, also, of, voids, one).
    let same : input ≡ bytes = cc in (
      bytes,
      entry,
      subst (λ i. PutsSealed u (sealed_name name) i outcome entry) same of,
      voids,
      ap (λ l. l ++ b) is ∙ ap (λ l. Happened (Read name bytes) ∷ l) one,
    ))
    before opened put (told_grows (Read name) left before opened tells) puts

added : (u : SealedUnder) (name : List ℕ) (outcome : FileOutcome) (void : List ℕ) (a b : List Entry) → Puts u name outcome void a
    → b ≡ Happened (Closed name (once_if (is_unread outcome))) ∷ [] → AddsVoid u name outcome void (a ++ b)
added u name outcome void a b (input, put, of, voids, is) end =
    let all : a ++ b ≡ Happened (Read name input) ∷ put ∷ Happened (Closed name (once_if (is_unread outcome))) ∷ [] =
    ap₂ (λ l m. l ++ m) is end in
    (by_outcome outcome of all, voids ∙ ap given_up_in (sym all))
  where
    by_outcome : (outcome : FileOutcome) → PutsSealed u (sealed_name name) input outcome put
        → a ++ b ≡ Happened (Read name input) ∷ put ∷ Happened (Closed name (once_if (is_unread outcome))) ∷ []
        → AddsSealed u name outcome (a ++ b)
    by_outcome (Failed line.OutOfMemory) (content, held, has, why, same) all = absurd why
    by_outcome (Failed line.CannotOpen) (content, held, has, why, same) all = absurd why
    by_outcome outcome of all = (input, put, of, all)

pub file_sealed : (u : SealedUnder) (name : List ℕ) (left : Option (List ℕ)) (outcome : FileOutcome) (void : List ℕ)
    (first last : Option ℕ) (before opened put after : Option RunRecord) → TellsBytes (Read name) left before opened
    → IfSome opened (λ _. first ≡ Some 0) → Grows (PutsLeft u (sealed_name name) left outcome void) opened put
    → last ≡ counted (is_unread outcome) first → Tells (Closed name) last put after → Grows (AddsVoid u name outcome void) before after
file_sealed u name left outcome void first last before opened put None tells none puts count ends = tt
file_sealed u name left outcome void first last before opened None (Some c) tells none puts count ends =
    absurd (nothing_closed name last c ends)
file_sealed u name left outcome void first last before None (Some p) (Some c) tells none puts count ends = absurd puts
file_sealed u name left outcome void first last before (Some r) (Some p) (Some c) tells none puts count ends =
    grows_on (Puts u name outcome void)
    (λ new. new ≡ Happened (Closed name (once_if (is_unread outcome))) ∷ []) (AddsVoid u name outcome void) (added u name outcome void)
    before (Some p) (Some c) (put_read u name left outcome void before (Some r) (Some p) tells puts)
    (closes name (is_unread outcome) last (Some p) (Some c) (count ∙ ap (counted (is_unread outcome)) none) ends)
