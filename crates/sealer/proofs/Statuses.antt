-- The status of a run is that of its lines, if all of them were written.
use Rattle.std.proofs.Common.{arith, length, ◌≡◌, ◌++◌, inl, inr, ⊎_elim, All, ℕ, Bool, true, false, if◌then◌else◌, List, [], ◌∷◌, Option, ap, codes, map, refl, sym, subst}
use Rattle.std.proofs.KnownBytes.{Appends-nil, Appends-trans}
use Rattle.std.proofs.lemmas.List.Elements.{All-cons, All-nil, All-weaker}
use Rattle.std.proofs.lemmas.Bool.{cases_eq}
use Rattle.clap.specs.declared.parser.matches.ArgMatches.{ArgMatches}
use Rattle.io_core.specs.Streams.{Appends}
use Rattle.command_core.specs.declared.line.FileOutcome.{FileOutcome}
use Rattle.command_core.specs.Lines.{FileLine, lines_text}
use Rattle.folder_core.specs.Record.{Entry, RunRecord}
use Rattle.command_core.specs.Files.{HaveAdded}
use Rattle.command_core.specs.Turns.{Printed}
use Rattle.command_core.specs.Work.{AreTold}
use Rattle.system_files.specs.Kept.{IsSplit, kept_text}
use Rattle.command_line.specs.Asked.{IsNaming}
use Rattle.command_line.specs.Given.{IsFlag, files_given}
use Rattle.command_line.specs.declared.names.Naming.{Naming}
use Rattle.sealer.specs.Names.{IsListText, IsListedBy, named_by}
use Rattle.sealer.specs.Status.{IsStatusOf, IsStatusOfRun, IsStatusOver}

-- lines that were reported
of_lines : (fits : List ℕ → FileOutcome → Type 0) (status : ℕ) (lines : List FileLine) (old new : Option (List ℕ))
    (failures failures' : Option ℕ) → All (λ line. fits line.name line.outcome) lines
    → AreTold status lines old new failures failures' → IsStatusOf fits status (map (λ line. line.name) lines) old new
of_lines fits status lines old new _ _ fitting told = ⊎_elim (λ two. inl two)
    (λ other. inr (lines, refl, fitting, (told.whole other).0, (told.whole other).1)) (cases_eq status 2)

-- lines of files that were opened or verified
pub of_added : (fits : List ℕ → FileOutcome → Type 0) (adds : List ℕ → FileOutcome → List Entry → Type 0) (names : List (List ℕ))
    (status : ℕ) (old new : Printed) (before after : Option RunRecord) → HaveAdded fits adds names status old new before after
    → IsStatusOf fits status names old.taken new.taken
of_added fits adds names status old new before after added = subst (λ n. IsStatusOf fits status n old.taken new.taken) added.named
    (of_lines fits status added.lines old.taken new.taken old.failures new.failures added.fitting added.told)

-- and a journal that was written after them, or wasn't
pub of_written : (fits : List ℕ → FileOutcome → Type 0) (status told : ℕ) (written : Bool) (lines : List FileLine)
    (old mid new : Option (List ℕ)) (failures failures' : Option ℕ) → All (λ line. fits line.name line.outcome) lines
    → AreTold told lines old mid failures failures' → (written ≡ true → new ≡ mid)
    → status ≡ (if written then told else 2) → IsStatusOf fits status (map (λ line. line.name) lines) old new
of_written fits status told true lines old mid new failures failures' fitting all same is =
    subst (λ s. IsStatusOf fits s (map (λ line. line.name) lines) old new) (sym is)
    (subst (λ n. IsStatusOf fits told (map (λ line. line.name) lines) old n) (sym (same refl))
    (of_lines fits told lines old mid failures failures' fitting all))
of_written fits status told false lines old mid new failures failures' fitting all same is = inl is

-- one line that was reported
pub of_line : (fits : List ℕ → FileOutcome → Type 0) (status : ℕ) (line : FileLine) (old new : Option (List ℕ))
    (failures failures' : Option ℕ) → fits line.name line.outcome
    → AreTold status (line ∷ []) old new failures failures' → IsStatusOf fits status (line.name ∷ []) old new
of_line fits status line old new failures failures' fit told =
    of_lines fits status (line ∷ []) old new failures failures'
    (All-cons (λ line. fits line.name line.outcome) line [] fit (All-nil (λ line. fits line.name line.outcome))) told

-- the same for outcomes that fit in another way too
pub weaker : (fits others : List ℕ → FileOutcome → Type 0) (status : ℕ) (names : List (List ℕ)) (old new : Option (List ℕ))
    → ((name : List ℕ) (outcome : FileOutcome) → fits name outcome → others name outcome)
    → IsStatusOf fits status names old new → IsStatusOf others status names old new
weaker fits others status names old new so = ⊎_elim (λ two. inl two)
    (λ some. inr (
      some.0,
      some.1,
      All-weaker (λ line. fits line.name line.outcome) (λ line. others line.name line.outcome)
          (λ line. so line.name line.outcome) some.0 some.2,
      some.3,
      some.4,
    ))

-- after the lines of the files that are kept
pub with_kept : (fits : List ℕ → FileOutcome → Type 0) (matches : ArgMatches) (skip : Bool) (status : ℕ)
    (names kept others : List (List ℕ)) (old mid new : Option (List ℕ)) → IsFlag matches (codes "skip-existing") skip
    → IsSplit names kept others → (skip ≡ false → kept ≡ []) → Appends old mid (kept_text kept)
    → IsStatusOf fits status others mid new → IsStatusOver fits matches status names old new
with_kept fits matches skip status names kept others old mid new flag split none first of = ⊎_elim (λ two. inl two)
    (λ some. inr (
      skip,
      flag,
      kept,
      others,
      split,
      none,
      some.0,
      some.1,
      some.2,
      some.3,
      Appends-trans old mid new (kept_text kept) (lines_text some.0) first some.4,
    )) of

pub no_items : {A B : Type 0} (f : A → B) (items : List A) → length items ≡ 0 → map f items ≡ []
no_items f [] is = refl
no_items f (x ∷ items) is = absurd (omega (arith, is))

-- where all files are kept
pub all_kept : (fits : List ℕ → FileOutcome → Type 0) (matches : ArgMatches) (skip : Bool)
    (names kept others : List (List ℕ)) (old new : Option (List ℕ)) → IsFlag matches (codes "skip-existing") skip
    → IsSplit names kept others → (skip ≡ false → kept ≡ []) → Appends old new (kept_text kept) → others ≡ []
    → IsStatusOver fits matches 0 names old new
all_kept fits matches skip names kept others old new flag split none printed empty =
    with_kept fits matches skip 0 names kept others old new new flag split none printed
    (subst (λ o. IsStatusOf fits 0 o new new) (sym empty)
    (inr ([], refl, All-nil (λ line. fits line.name line.outcome), refl, Appends-nil new)))

-- the same for equal arguments
pub moved : (fits : List ℕ → FileOutcome → Type 0) (status : ℕ) (names names' : List (List ℕ))
    (old old' new new' : Option (List ℕ)) → names ≡ names' → old ≡ old'
    → new ≡ new' → IsStatusOf fits status names old new → IsStatusOf fits status names' old' new'
moved fits status names names' old old' new new' n o e of =
    subst (λ e'. IsStatusOf fits status names' old' e') e
    (subst (λ o'. IsStatusOf fits status names' o' new) o (subst (λ n'. IsStatusOf fits status n' old new) n of))

-- over the names of a run
pub over_names : (fits : List ℕ → FileOutcome → Type 0) (matches : ArgMatches) (input text : Option (List ℕ)) (separator : ℕ)
    (naming : Naming) (status : ℕ) (names listed : List (List ℕ)) (old new : Option (List ℕ))
    → IsListText matches input text separator → IsNaming matches naming → IsListedBy naming separator text listed
    → names ≡ named_by naming (files_given matches ++ listed)
    → IsStatusOver fits matches status names old new → IsStatusOfRun fits matches input status old new
over_names fits matches input text separator naming status names listed old new read asked each all of = inr (
  names,
  record { naming = naming; asked = asked; text = text; separator = separator; read = read; listed = listed; each = each; all = all },
  of,
)
