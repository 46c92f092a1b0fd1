-- What a file that is opened to a stream does, by its outcome.
use Rattle.std.proofs.Common.{◌≡◌, ◌∙◌, inl, inr, ℕ, true, false, List, [], ◌∷◌, ◌++◌, Option, None, Some, refl, sym, ap, subst}
use Rattle.std.proofs.KnownBytes.{Keeps-refl}
use Rattle.std.specs.Prelude.{⊤, IfSome, Ok, Err}
use Rattle.container_core.specs.declared.fault.OpenFault.{OpenFault}
use Rattle.container_core.specs.declared.fault.OpenFault.TheVariants as bytes
use Rattle.container_core.specs.Faults.{IsOfBytes}
use Rattle.io_core.specs.Streams.{counted}
use Rattle.io_core.specs.Views.{io_view}
use Rattle.opening_core.specs.declared.twice.Stopped.{Stopped}
use Rattle.opening_core.specs.declared.twice.Stopped.TheVariants as stop
use Rattle.opening_core.specs.Engine.{HasHeader}
use Rattle.opening_core.specs.Twice.{HasWrittenAgain}
use Rattle.folder_core.specs.Record.{Checked, Closed, Content, Entry, Event, Happened, Read, Repeated, RunRecord, Unrepeated}
use Rattle.folder_core.specs.Changes.{Becomes, HasStreamAlone, IsFresh, IsIdle, IsKept, IsNewStream, MayHold, Tells, TellsBytes, with_entry}
use Rattle.folder_core.specs.Growth.{Grows, GrowsGiving}
use Rattle.folder_core.proofs.Growth.{grows_on}
use Rattle.folder_core.proofs.Streams.{alone_after, still_new}
use Rattle.command_core.specs.declared.line.FileFault.{FileFault}
use Rattle.command_core.specs.declared.line.FileFault.TheVariants.{AnotherLabel, CannotOpen, Changed, SpoolFailed, Unopened}
use Rattle.command_core.specs.declared.line.FileOutcome.{FileOutcome}
use Rattle.command_core.specs.declared.line.FileOutcome.TheVariants.{Failed, Opened}
use Rattle.command_core.specs.Again.{IsAgainFault, IsBegun}
use Rattle.command_core.specs.Files.{AddsClosed}
use Rattle.command_core.specs.Labels.{IsLabelled}
use Rattle.command_core.specs.Putting.{IsAgainIn, fault_of_stop, once_if}
use Rattle.command_core.specs.Unpiping.{HasUnpiped, HasUnpipedRead, IsCutShort, IsOfUnpiping, IsReadTwice, Unpipes, UnpipesRead, outputs_view}
use Rattle.command_core.specs.Work.{IsFaultOf, IsOfVerifying, file_write_failed, reading_failed}
use Rattle.command_core.proofs.Giving.{given_after, gives_nothing, giving_on, giving_to}
use Rattle.command_core.proofs.Puts.{IsAllowedAgain, begun_at, given, lost_by, stop_of}
use Rattle.command_core.proofs.Files.{IsHeaded, Reads, closes, differ, grows_to, known_at, nothing_closed, told_grows, unrepeated}

-- ---- the stream

-- nothing is in hand while it is new, and it is new until it is taken in hand
pub idle_stream : (place : ℕ) (rest : Option RunRecord) → IfSome rest (IsNewStream place) → IsIdle rest
idle_stream place None new = tt
idle_stream place (Some r) (new, named) = new.idle

pub new_still : (place : ℕ) (event : List ℕ → Event) (left : Option (List ℕ)) (before after : Option RunRecord)
    → IfSome before (IsNewStream place) → TellsBytes event left before after → IfSome after (IsNewStream place)
new_still place event left before None new tells = tt
new_still place event left before (Some r) new (bytes, here, came) = still_new place (Happened (event bytes)) before (Some r) new came

pub may_stream : (place : ℕ) (key header : List ℕ) (left : Option (List ℕ)) (rest : Option RunRecord) → IfSome rest (IsNewStream place)
    → IfSome rest (IsAgainIn key header left)
    → IfSome rest (λ r. (last : List ℕ) × (left ≡ Some last) × MayHold place (Checked key header last) r)
may_stream place key header left None new again = tt
may_stream place key header left (Some r) (new, named) (last, here, again) =
    (last, here, record { new = new; allowed = again; free = tt })

pub alone_again : (place : ℕ) (key header : List ℕ) (left : Option (List ℕ)) (before after : Option RunRecord)
    → IfSome before (IsNewStream place) → IsAllowedAgain place key header left before after → IfSome after HasStreamAlone
alone_again place key header left before None new may = tt
alone_again place key header left before (Some r) new (last, here, became) =
    alone_after place (Checked key header last) before (Some r) new became

-- what it took, and how many writes failed, is as before the second reading
pub kept_again : (place : ℕ) (key header name : List ℕ) (left : Option (List ℕ)) (one two three : Option RunRecord)
    (start taken taken' : Option (List ℕ)) (zero failures failures' : Option ℕ) → taken ≡ start → failures ≡ zero → IsFresh one start zero
    → TellsBytes (Repeated name) left one two → IsAllowedAgain place key header left two three → IsFresh three taken' failures'
    → IsKept three taken taken' failures failures' → (taken' ≡ start) × (failures' ≡ zero)
kept_again place key header name left one two None start taken taken' zero failures failures' same count fresh again may new kept =
    (kept.0 ∙ same, kept.1 ∙ count)
kept_again place key header name left one two (Some r) start taken taken' zero failures failures' same count fresh again
    (last, here, (was, known, is)) new kept =
    let (bytes, there, (first, before, came)) = subst (λ o. TellsBytes (Repeated name) left one o) known again in
    let was_new = subst (λ o. IsFresh o start zero) before fresh in (new.0 ∙ sym was_new.0, new.1 ∙ sym was_new.1)

-- ---- nothing was written

refused_works : (key : List ℕ) (most : ℕ) (label : Option (List ℕ)) (name : List ℕ) (taken : Option (List ℕ)) (f : FileFault)
    (input : List ℕ) (new : List Entry) → IsFaultOf key most label input f → new ≡ Happened (Read name input) ∷ []
    → UnpipesRead key most label name taken taken (Failed f) new None
refused_works key most label name taken Changed input new why is = absurd why
refused_works key most label name taken SpoolFailed input new why is = absurd why
refused_works key most label name taken (Unopened bytes.OutOfMemory) input new why is = inl (Keeps-refl taken, refl, input, why, is)
refused_works key most label name taken (Unopened bytes.Read) input new why is = inl (Keeps-refl taken, refl, input, is)
refused_works key most label name taken (Unopened bytes.Write) input new why is = absurd why
refused_works key most label name taken _ input new why is = (refl, input, why, is)

refused_kept : (taken : Option (List ℕ)) (f : FileFault) → IsOfVerifying true (Failed f) → IsOfUnpiping taken taken (Failed f)
refused_kept taken CannotOpen of = Keeps-refl taken
refused_kept taken AnotherLabel of = Keeps-refl taken
refused_kept taken Changed of = absurd of
refused_kept taken SpoolFailed of = absurd of
refused_kept taken (Unopened f) of = λ _. Keeps-refl taken
refused_kept taken _ of = of

no_write : (f : FileFault) → IsOfVerifying true (Failed f) → file_write_failed (Failed f) ≡ false
no_write (Unopened bytes.Write) of = absurd of
no_write _ of = refl

pub refused_unpiped : (key : List ℕ) (most : ℕ) (label : Option (List ℕ)) (name : List ℕ) (place : ℕ) (left taken : Option (List ℕ))
    (failures : Option ℕ) (f : FileFault) (before after : Option RunRecord) → IsOfVerifying true (Failed f)
    → IfSome left (λ input. IsFaultOf key most label input f) → TellsBytes (Read name) left before after
    → HasUnpipedRead key most label name place (outputs_view before taken failures) (outputs_view after taken failures) (Failed f)
refused_unpiped key most label name place left taken failures f before after of why tells = record {
  works = gives_nothing place (UnpipesRead key most label name taken taken (Failed f)) before after
      (grows_to (Reads (Read name) left) (λ new. UnpipesRead key most label name taken taken (Failed f) new None) (λ new (bytes, here, is).
      refused_works key most label name taken f bytes new
      (known_at (λ input. IsFaultOf key most label input f) left bytes here why) is) before after
      (told_grows (Read name) left before after tells));
  kept = refused_kept taken f of;
  write = sym (ap (λ b. counted b failures) (no_write f of));
}

pub lost_unpiped : (key header : List ℕ) (most : ℕ) (label : Option (List ℕ)) (name : List ℕ) (place : ℕ) (left taken : Option (List ℕ))
    (failures : Option ℕ) (before one two : Option RunRecord) → IfSome left (IsHeaded key most label header)
    → Becomes (with_entry (Happened (Unrepeated name))) one two → TellsBytes (Read name) left before one
    → HasUnpipedRead key most label name place (outputs_view before taken failures) (outputs_view two taken failures) (Failed SpoolFailed)
lost_unpiped key header most label name place left taken failures before one two headed fails tells = record {
  works = gives_nothing place (UnpipesRead key most label name taken taken (Failed SpoolFailed)) before two
      (unrepeated key header most label name left (λ new. UnpipesRead key most label name taken taken (Failed SpoolFailed) new None)
      before one two (λ new lost. (refl, lost)) headed fails tells);
  kept = Keeps-refl taken;
  write = refl;
}

-- ---- it was read again

-- it was read twice: first with these bytes left, then with those
abbrev ReadsTwice : List ℕ → Option (List ℕ) → Option (List ℕ) → List Entry → Type 0
ReadsTwice name left next new = (first : List ℕ) × (last : List ℕ) × (left ≡ Some first) × (next ≡ Some last)
    × (new ≡ Happened (Read name first) ∷ Happened (Repeated name last) ∷ [])

-- and then the stream was taken in hand
abbrev GivesLast : List ℕ → ℕ → Option (List ℕ) → List ℕ → List ℕ → Option (List ℕ) → List Entry → Option Content → Type 0
GivesLast key most label name header next new content = (first : List ℕ) × (last : List ℕ) × (next ≡ Some last)
    × IsReadTwice key most label name header first last new content

gives_last : (key header : List ℕ) (most : ℕ) (label : Option (List ℕ)) (name : List ℕ) (place : ℕ) (left next : Option (List ℕ))
    (before one two three : Option RunRecord) → IfSome left (IsHeaded key most label header) → IsAllowedAgain place key header next two three
    → TellsBytes (Repeated name) next one two → TellsBytes (Read name) left before one
    → GrowsGiving place (GivesLast key most label name header next) before three
gives_last key header most label name place left next before one two None headed may again tells = tt
gives_last key header most label name place left next before one two (Some r) headed (last, there, (was, known, is)) again tells =
    by before (subst (Grows (ReadsTwice name left next) before) known
    (grows_on (Reads (Read name) left) (Reads (Repeated name) next) (ReadsTwice name left next)
    (λ a b (first, here, is) (last, there, also). (first, last, here, there, (λ i. is i ++ also i))) before one two
    (told_grows (Read name) left before one tells) (told_grows (Repeated name) next one two again)))
  where
    by : (before : Option RunRecord) → Grows (ReadsTwice name left next) before (Some was)
        → GrowsGiving place (GivesLast key most label name header next) before (Some r)
    by None grew = absurd grew
    by (Some b) (new, (first, other, here, also, are), grown) =
        let same : last ≡ other = cc in
        let (has, plain, good) = known_at (IsHeaded key most label header) left first here headed in (
          new,
          Some (Checked key header last),
          (first, last, there, (has, (plain, good), are ∙ ap (λ l. Happened (Read name first) ∷ Happened (Repeated name l) ∷ []) (sym same), refl)),
          given_after place (Checked key header last) (Read name first ∷ Repeated name other ∷ []) new b was r are grown is,
        )

pub opened_unpiped : (key header : List ℕ) (most n : ℕ) (label : Option (List ℕ)) (name : List ℕ) (place : ℕ)
    (left next next' taken taken' : Option (List ℕ)) (reads reads' failures failures' : Option ℕ) (before one two three : Option RunRecord)
    → IfSome left (IsHeaded key most label header) → ((input : List ℕ) → HasHeader header input → IsLabelled label input)
    → IsAllowedAgain place key header next two three
    → HasWrittenAgain key header most (io_view next reads taken failures) (io_view next' reads' taken' failures') (Ok n)
    → TellsBytes (Repeated name) next one two → TellsBytes (Read name) left before one
    → HasUnpipedRead key most label name place (outputs_view before taken failures) (outputs_view three taken' failures') (Opened n)
opened_unpiped key header most n label name place left next next' taken taken' reads reads' failures failures' before one two three
    headed labelled may wrote again tells =
    let (input, has, (whole, ok, grew, long), is) = wrote.written in record {
      works = giving_to place (GivesLast key most label name header next) (UnpipesRead key most label name taken taken' (Opened n))
          (λ new content (first, last, there, twice).
          let (has, (plain, opens, grew, long)) = given key most header next taken taken' last n there wrote.written in
          (header, first, last, plain, twice, has, (opens, labelled last has), long, grew)) before three
          (gives_last key header most label name place left next before one two three headed may again tells);
      kept = (whole, long, grew);
      write = wrote.write;
    }

broken_works : (key : List ℕ) (most : ℕ) (label : Option (List ℕ)) (name : List ℕ) (taken taken' : Option (List ℕ)) (f : OpenFault)
    (new : List Entry) (content : Option Content) → ¬ IsOfBytes f → IsCutShort key most label name taken taken' (λ _ _. ⊤) new content
    → UnpipesRead key most label name taken taken' (Failed (Unopened f)) new content
broken_works key most label name taken taken' bytes.OutOfMemory new content other cut = inr cut
broken_works key most label name taken taken' bytes.Read new content other cut = inr cut
broken_works key most label name taken taken' bytes.Write new content other cut = cut
broken_works key most label name taken taken' _ new content other cut = absurd (other tt)

stopped_works : (key header : List ℕ) (most : ℕ) (label : Option (List ℕ)) (name first last : List ℕ) (taken taken' : Option (List ℕ))
    (stopped : Stopped) (new : List Entry) (content : Option Content) → IsAgainFault key header most (Some last) stopped
    → IsBegun key most header last taken taken' → IsReadTwice key most label name header first last new content
    → UnpipesRead key most label name taken taken' (Failed (fault_of_stop stopped)) new content
stopped_works key header most label name first last taken taken' (stop.Refused f) new content why begun twice = absurd why
stopped_works key header most label name first last taken taken' stop.Changed new content why begun (has, (plain, good), is, got) =
    (header, first, last, differ key header most label first last (has, plain, good) why, (has, (plain, good), is, got), begun)
stopped_works key header most label name first last taken taken' (stop.Broken f) new content why begun twice =
    broken_works key most label name taken taken' f new content why (header, first, last, tt, twice, begun)

stopped_kept : (key header : List ℕ) (most : ℕ) (left taken taken' : Option (List ℕ)) (stopped : Stopped)
    → IsAgainFault key header most left stopped → IsOfUnpiping taken taken' (Failed (fault_of_stop stopped))
stopped_kept key header most left taken taken' (stop.Refused f) why = absurd why
stopped_kept key header most left taken taken' stop.Changed why = tt
stopped_kept key header most left taken taken' (stop.Broken f) why = λ of. absurd (why of)

pub stopped_unpiped : (key header : List ℕ) (most : ℕ) (label : Option (List ℕ)) (name : List ℕ) (place : ℕ)
    (left next next' taken taken' : Option (List ℕ)) (reads reads' failures failures' : Option ℕ) (stopped : Stopped)
    (before one two three : Option RunRecord) → IfSome left (IsHeaded key most label header) → IsAllowedAgain place key header next two three
    → HasWrittenAgain key header most (io_view next reads taken failures) (io_view next' reads' taken' failures') (Err stopped)
    → TellsBytes (Repeated name) next one two → TellsBytes (Read name) left before one
    → HasUnpipedRead key most label name place (outputs_view before taken failures) (outputs_view three taken' failures')
    (Failed (fault_of_stop stopped))
stopped_unpiped key header most label name place left next next' taken taken' reads reads' failures failures' stopped before one two three
    headed may wrote again tells =
    let why : IsAgainFault key header most next stopped = stop_of key most header next stopped (λ e. wrote.changed (ap Err e))
    (λ fault e. wrote.checked_before fault (ap Err e)) (λ fault e. wrote.broken fault (ap Err e)) in record {
      works = giving_to place (GivesLast key most label name header next)
          (UnpipesRead key most label name taken taken' (Failed (fault_of_stop stopped))) (λ new content (first, last, there, twice).
          stopped_works key header most label name first last taken taken' stopped new content
          (subst (λ o. IsAgainFault key header most o stopped) there why)
          (begun_at key most header last next taken taken' there wrote.begun wrote.checked) twice) before three
          (gives_last key header most label name place left next before one two three headed may again tells);
      kept = stopped_kept key header most next taken taken' stopped why;
      write = wrote.write ∙ ap (λ b. counted b failures) (lost_by key header most next stopped why);
    }

-- ---- the file is closed

unpipes_of : (key : List ℕ) (most : ℕ) (label : Option (List ℕ)) (name : List ℕ) (taken taken' : Option (List ℕ)) (outcome : FileOutcome)
    (new : List Entry) (content : Option Content)
    → AddsClosed (λ it worked. UnpipesRead key most label name taken taken' it worked content) name outcome new
    → Unpipes key most label name taken taken' outcome new content
unpipes_of key most label name taken taken' (Failed CannotOpen) new content (worked, (none, input, why, is), all) = absurd why
unpipes_of key most label name taken taken' outcome new content closed = closed

pub closed_unpiped : (key : List ℕ) (most : ℕ) (label : Option (List ℕ)) (name : List ℕ) (place : ℕ) (left taken taken' : Option (List ℕ))
    (failures failures' first last : Option ℕ) (outcome : FileOutcome) (one read worked closed : Option RunRecord)
    → ((before : Option RunRecord) → TellsBytes (Read name) left before read → HasUnpipedRead key most label name place
    (outputs_view before taken failures) (outputs_view worked taken' failures') outcome)
    → IfSome worked (λ _. last ≡ counted (reading_failed outcome) first) → IfSome read (λ _. first ≡ Some 0)
    → TellsBytes (Read name) left one read → Tells (Closed name) last worked closed
    → HasUnpiped key most label name place (outputs_view one taken failures) (outputs_view closed taken' failures') outcome
closed_unpiped key most label name place left taken taken' failures failures' first last outcome one read worked closed
    run count none tells ends = record {
      works = by read worked closed (λ before tells. (run before tells).works) count none tells ends;
      kept = (run one tells).kept;
      write = (run one tells).write;
    }
  where
    by : (read worked closed : Option RunRecord)
        → ((before : Option RunRecord) → TellsBytes (Read name) left before read
        → GrowsGiving place (UnpipesRead key most label name taken taken' outcome) before worked)
        → IfSome worked (λ _. last ≡ counted (reading_failed outcome) first) → IfSome read (λ _. first ≡ Some 0)
        → TellsBytes (Read name) left one read → Tells (Closed name) last worked closed
        → GrowsGiving place (Unpipes key most label name taken taken' outcome) one closed
    by read worked None works count none tells ends = tt
    by read None (Some c) works count none tells ends = absurd (nothing_closed name last c ends)
    by None (Some w) (Some c) works count none tells ends = absurd (works None tt)
    by (Some r) (Some w) (Some c) works count none tells ends =
        giving_on place (UnpipesRead key most label name taken taken' outcome) (Unpipes key most label name taken taken' outcome)
        (λ new. new ≡ Happened (Closed name (once_if (reading_failed outcome))) ∷ [])
        (λ a b content of is. unpipes_of key most label name taken taken' outcome (a ++ b) content (a, of, ap (λ l. a ++ l) is))
        one (Some w) (Some c) (works one tells)
        (closes name (reading_failed outcome) last (Some w) (Some c) (count ∙ ap (counted (reading_failed outcome)) none) ends)
