-- What became of a stream says what its output took, and its line agrees with that.
use Rattle.std.proofs.Common.{◌≡◌, ◌++◌, ℕ, Bool, true, false, if◌then◌else◌, List, [], ◌∷◌, Option, None, Some, IfSome, ap, append-nil, inl, length, refl, sym, subst}
use Rattle.std.proofs.KnownBytes.{Keeps-refl}
use Rattle.std.proofs.lemmas.List.Elements.{All-cons, All-nil}
use Rattle.clap.specs.declared.parser.matches.ArgMatches.{ArgMatches}
use Rattle.container_core.specs.Container.{container}
use Rattle.container_core.specs.Shape.{ShapeView}
use Rattle.io_core.specs.Streams.{Appends, AppendsFront, Keeps}
use Rattle.journal_core.specs.declared.entry.Entry.{Entry}
use Rattle.journal_core.specs.declared.terms.Terms.{Terms}
use Rattle.journal_core.specs.Range.{prefix_of}
use Rattle.folder_core.specs.Changes.{stream_name}
use Rattle.command_core.specs.declared.line.FileFault.TheVariants.{CannotOpen, NoSuffix, OutputExists, CannotCreate}
use Rattle.command_core.specs.declared.line.FileFault.TheVariants.{OutOfMemory, NoNumber, AnotherLabel, Unopened}
use Rattle.command_core.specs.declared.line.FileFault.TheVariants.{Unsealed, Changed, SpoolFailed}
use Rattle.command_core.specs.declared.line.FileOutcome.{FileOutcome}
use Rattle.command_core.specs.declared.line.FileOutcome.TheVariants.{Sealed, Opened, Good, Shown, Failed}
use Rattle.command_core.specs.Turns.{Printed}
use Rattle.sealer_core.specs.Piping.{FollowsLine, HasSealedStream, PipeView, WorksStream}
use Rattle.sealer_core.specs.Sealing.{SealedUnder, line_of}
use Rattle.sealer.specs.Pipes.{IsOfPiping, PipesAsAsked, PipesUnder, TakesFront}
use Rattle.sealer.proofs.Statuses.{of_written}

if_some_all : (input : Option (List ℕ)) (P : List ℕ → Type 0) → ((plain : List ℕ) → P plain) → IfSome input P
if_some_all None P all = tt
if_some_all (Some plain) P all = all plain

if_some_map : (input : Option (List ℕ)) (P Q : List ℕ → Type 0) → ((plain : List ℕ) → P plain → Q plain) → IfSome input P → IfSome input Q
if_some_map None P Q so is = tt
if_some_map (Some plain) P Q so is = so plain is

if_some_both : (input : Option (List ℕ)) (P Q : List ℕ → Type 0) → IfSome input P → IfSome input Q → IfSome input (λ plain. P plain × Q plain)
if_some_both None P Q one other = tt
if_some_both (Some plain) P Q one other = (one, other)

appends_nothing : (old new : Option (List ℕ)) → Keeps old new → Appends old new []
appends_nothing None new kept = tt
appends_nothing (Some xs) None kept = absurd kept
appends_nothing (Some xs) (Some ys) kept = subst (λ l. ys ≡ l) (sym (append-nil xs)) kept

-- nothing is a front of any container
takes_nothing : (key : List ℕ) (shape : ShapeView) (device : ℕ) (input old new : Option (List ℕ)) → Keeps old new
    → TakesFront key shape device input old new
takes_nothing key shape device input old new kept = (
  0,
  if_some_all input (λ plain. AppendsFront old new (container key shape (prefix_of device 0) plain))
      (λ plain. ([], (container key shape (prefix_of device 0) plain, refl), appends_nothing old new kept)),
)

-- and so is what comes with each outcome
takes_front : (key : List ℕ) (shape : ShapeView) (device : ℕ) (input old new : Option (List ℕ)) (outcome : FileOutcome)
    → IsOfPiping key shape device input old new outcome → TakesFront key shape device input old new
takes_front key shape device input old new (Sealed number bytes) is = (
  number,
  if_some_map input _ (λ plain. AppendsFront old new (container key shape (prefix_of device number) plain))
      (λ plain all. let whole = container key shape (prefix_of device number) plain in (whole, ([], sym (append-nil whole)), all.1)) is,
)
takes_front key shape device input old new (Failed NoNumber) is = takes_nothing key shape device input old new is
takes_front key shape device input old new (Failed (Unsealed fault)) is = is
takes_front _ _ _ _ _ _ (Failed CannotOpen) never = absurd never
takes_front _ _ _ _ _ _ (Failed NoSuffix) never = absurd never
takes_front _ _ _ _ _ _ (Failed OutputExists) never = absurd never
takes_front _ _ _ _ _ _ (Failed CannotCreate) never = absurd never
takes_front _ _ _ _ _ _ (Failed OutOfMemory) never = absurd never
takes_front _ _ _ _ _ _ (Failed AnotherLabel) never = absurd never
takes_front _ _ _ _ _ _ (Failed Changed) never = absurd never
takes_front _ _ _ _ _ _ (Failed SpoolFailed) never = absurd never
takes_front _ _ _ _ _ _ (Failed (Unopened fault)) never = absurd never
takes_front _ _ _ _ _ _ (Opened bytes) never = absurd never
takes_front _ _ _ _ _ _ (Good bytes) never = absurd never
takes_front _ _ _ _ _ _ (Shown bytes facts) never = absurd never

-- what became of a stream is an outcome of `pipe`
fits_stream : (under : SealedUnder) (place : ℕ) (old new : PipeView) (outcome : FileOutcome) (voids : List ℕ)
    → WorksStream under place old new outcome voids
    → IsOfPiping under.key under.shape under.device old.stream.left old.stream.taken new.stream.taken outcome
fits_stream under place old new (Sealed number bytes) voids works =
    if_some_both old.stream.left _ _ works.1.1.answer works.1.1.written
fits_stream under place old new (Failed NoNumber) voids works =
    subst (λ stream. Keeps old.stream.taken stream.taken) (sym works.1.0) (Keeps-refl old.stream.taken)
fits_stream under place old new (Failed (Unsealed fault)) [] works =
    takes_nothing under.key under.shape under.device old.stream.left old.stream.taken new.stream.taken
    (subst (λ stream. Keeps old.stream.taken stream.taken) (sym works.1.0) (Keeps-refl old.stream.taken))
fits_stream under place old new (Failed (Unsealed fault)) (number ∷ []) works = (number, works.1.begun)
fits_stream _ _ _ _ (Failed (Unsealed fault)) (one ∷ other ∷ more) never = absurd never
fits_stream _ _ _ _ (Failed CannotOpen) _ never = never
fits_stream _ _ _ _ (Failed NoSuffix) _ never = never
fits_stream _ _ _ _ (Failed OutputExists) _ never = never
fits_stream _ _ _ _ (Failed CannotCreate) _ never = never
fits_stream _ _ _ _ (Failed OutOfMemory) _ never = never
fits_stream _ _ _ _ (Failed AnotherLabel) _ never = never
fits_stream _ _ _ _ (Failed Changed) _ never = never
fits_stream _ _ _ _ (Failed SpoolFailed) _ never = never
fits_stream _ _ _ _ (Failed (Unopened fault)) _ never = never
fits_stream _ _ _ _ (Opened bytes) _ never = never
fits_stream _ _ _ _ (Good bytes) _ never = never
fits_stream _ _ _ _ (Shown bytes facts) _ never = never

-- a stream that was sealed, its line, and what followed that
pub of_stream : (status told : ℕ) (written : Bool) (under : SealedUnder) (place : ℕ) (was is : PipeView) (terms : Terms)
    (history : List Entry) (old line new : Printed)
    → HasSealedStream under place was is terms history told old line → FollowsLine written line new
    → status ≡ (if written then told else 2)
    → PipesUnder under.key under.shape under.device was.stream.left was.stream.taken is.stream.taken status old.taken new.taken
of_stream status told written under place was is terms history old line new sealed follows ends =
    let of = λ (outcome : FileOutcome). IsOfPiping under.key under.shape under.device was.stream.left was.stream.taken is.stream.taken outcome in
    let fits = fits_stream under place was is sealed.outcome sealed.piped.voids sealed.piped.works in (
      takes_front under.key under.shape under.device was.stream.left was.stream.taken is.stream.taken sealed.outcome fits,
      of_written (λ name. of) status told written (line_of stream_name sealed.outcome ∷ []) old.taken line.taken
          new.taken old.failures line.failures
          (All-cons (λ line. of line.outcome) (line_of stream_name sealed.outcome) [] fits (All-nil (λ line. of line.outcome)))
          sealed.told (λ yes. ap (λ it. it.taken) (subst (λ w. FollowsLine w line new) yes follows)) ends,
    )

-- a run that was refused
pub refused : (key : List ℕ) (shape : ShapeView) (device : ℕ) (input old new : Option (List ℕ)) (status : ℕ)
    (errors errors' : Option (List ℕ)) → new ≡ old → status ≡ 2
    → PipesUnder key shape device input old new status errors errors'
refused key shape device input old new status errors errors' same two =
    (takes_nothing key shape device input old new (subst (λ n. Keeps old n) (sym same) (Keeps-refl old)), inl two)

-- and one that didn't come so far
pub untouched : (matches : ArgMatches) (input old errors errors' : Option (List ℕ)) (status : ℕ) → status ≡ 2
    → PipesAsAsked matches input status old old errors errors'
untouched matches input old errors errors' status two = inl (two, Keeps-refl old)
