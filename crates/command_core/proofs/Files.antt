-- A file of a folder that keeps a record is read, and opened to an output or verified: what comes for it.
use Rattle.std.proofs.Common.{◌≡◌, ◌≢◌, ◌∙◌, inl, inr, ℕ, suc, Bool, false, List, [], ◌∷◌, ◌++◌, length, Option, None, Some, refl, sym, ap, subst, length-append, arith}
use Rattle.std.specs.Prelude.{⊤, IfSome, Result, Ok, Err, slice_get}
use Rattle.container_core.specs.declared.fault.OpenFault.{OpenFault}
use Rattle.container_core.specs.declared.fault.OpenFault.TheVariants as bytes
use Rattle.container_core.specs.Faults.{IsOfBytes}
use Rattle.container_core.specs.Opening.{opening}
use Rattle.io_core.specs.Streams.{counted}
use Rattle.opening_core.specs.declared.twice.Stopped.TheVariants as stop
use Rattle.opening_core.specs.Engine.{HasHeader, OpensTo}
use Rattle.folder_core.specs.declared.fault.FolderFault.TheVariants as refusal
use Rattle.folder_core.specs.Record.{Checked, Closed, Entry, Event, Finished, GivenUp, Happened, Plain, Read, Repeated, RunRecord, Unrepeated, WasRead, WasReadAgain}
use Rattle.folder_core.specs.Changes.{Becomes, IsIdle, Tells, TellsBytes, with_entry}
use Rattle.folder_core.specs.Growth.{Grows}
use Rattle.folder_core.proofs.Entries.{get_end, get_more}
use Rattle.folder_core.proofs.Growth.{grows_by, grows_on}
use Rattle.command_core.specs.declared.facts.Facts.{Facts}
use Rattle.command_core.specs.declared.line.FileFault.{FileFault}
use Rattle.command_core.specs.declared.line.FileFault.TheVariants.{CannotCreate, CannotOpen, Changed, NoSuffix, OutputExists, Unopened}
use Rattle.command_core.specs.declared.line.FileOutcome.{FileOutcome}
use Rattle.command_core.specs.declared.line.FileOutcome.TheVariants.{Failed, Good, Opened, Shown}
use Rattle.command_core.specs.declared.putting.FillFault.{FillFault}
use Rattle.command_core.specs.declared.putting.FillFault.TheVariants.{Uncreated, Unfilled}
use Rattle.command_core.specs.Again.{IsGood}
use Rattle.command_core.specs.Facts.{IsOfHeader}
use Rattle.command_core.specs.Labels.{IsLabelled}
use Rattle.command_core.specs.Putting.{IsAgainIn, LacksPlain, PutsAgain, closed_output, fault_of_fill, once_if}
use Rattle.command_core.specs.Files.{AddsBrokenOff, AddsVerified, AddsVerifiedRead, AddsClosed, AddsOpened, AddsOpenedRead, AddsUnrepeated, IsOpenFile}
use Rattle.command_core.specs.Work.{IsFaultOf, IsOfOpening, IsOpenable, reading_failed}
use Rattle.command_core.proofs.Puts.{count_is, idle_grows, lost_by}

-- ---- what was added

-- of entries of one kind that are of another kind too
pub grows_to : (p q : List Entry → Type 0) → ((new : List Entry) → p new → q new) → (before after : Option RunRecord)
    → Grows p before after → Grows q before after
grows_to p q f before None grew = tt
grows_to p q f None (Some after) grew = absurd grew
grows_to p q f (Some before) (Some after) (new, of, is) = (new, f new of, is)

-- a reading came, of these bytes
abbrev pub Reads : (List ℕ → Event) → Option (List ℕ) → List Entry → Type 0
Reads event left new = (bytes : List ℕ) × (left ≡ Some bytes) × (new ≡ Happened (event bytes) ∷ [])

pub told_grows : (event : List ℕ → Event) (left : Option (List ℕ)) (before after : Option RunRecord)
    → TellsBytes event left before after → Grows (Reads event left) before after
told_grows event left before None tells = tt
told_grows event left before (Some r) (bytes, here, came) =
    grows_by (Reads event left) (Happened (event bytes)) (bytes, here, refl) before (Some r) came

-- a file that was opened for reading where nothing was in hand
pub open_file : (name : List ℕ) (left : Option (List ℕ)) (failures : Option ℕ) (before after : Option RunRecord)
    → TellsBytes (Read name) left before after → IsIdle before → IfSome after (λ _. failures ≡ Some 0)
    → IsOpenFile name left failures after
open_file name left failures before after tells idle fresh =
    record { idle = none_in_hand after tells; read = (before, tells); fresh = fresh }
  where
    none_in_hand : (after : Option RunRecord) → TellsBytes (Read name) left before after → IsIdle after
    none_in_hand None tells = tt
    none_in_hand (Some r) (bytes, here, (was, known, is)) = ap (λ (r : RunRecord). r.in_hand) is ∙ subst IsIdle known idle

-- nothing is in hand after what comes for the file
pub idle_over : (kind : List Entry → Type 0) (event : List ℕ → Event) (left : Option (List ℕ)) (start read after : Option RunRecord)
    → TellsBytes event left start read
    → ((before : Option RunRecord) → TellsBytes event left before read → Grows kind before after) → IsIdle read → IsIdle after
idle_over kind event left start None after tells works idle = idle_grows kind None after (works None tt) tt
idle_over kind event left start (Some r) after (bytes, here, (was, known, is)) works idle =
    idle_grows kind start after (works start (bytes, here, (was, known, is)))
    (subst IsIdle (sym known) (sym (ap (λ (r : RunRecord). r.in_hand) is) ∙ idle))

-- what is known of a reader stays known
pub known_on : (A : Type 0) (kind : List Entry → Type 0) (before after : Option RunRecord) → Grows kind before after
    → IfSome before (λ _. A) → IfSome after (λ _. A)
known_on A kind before None grew is = tt
known_on A kind None (Some after) grew is = absurd grew
known_on A kind (Some before) (Some after) grew is = is

pub if_known : {A : Type 0} (rest : Option RunRecord) → A → IfSome rest (λ _. A)
if_known None is = tt
if_known (Some r) is = is

-- how many calls of a reader failed by now: it was read, set back, and read again
pub count_back : (kind : List Entry → Type 0) (failed said : Bool) (first back second last : Option ℕ) (before after : Option RunRecord)
    → Grows kind before after → IfSome before (λ _. back ≡ counted false second) → last ≡ counted failed back → second ≡ counted false first
    → failed ≡ said → IfSome after (λ _. last ≡ counted said first)
count_back kind failed said first back second last before after grew back_is last_is second_is same =
    known_on (last ≡ counted said first) kind before after grew (by before back_is)
  where
    by : (before : Option RunRecord) → IfSome before (λ _. back ≡ counted false second) → IfSome before (λ _. last ≡ counted said first)
    by None is = tt
    by (Some r) is = last_is ∙ ap (counted failed) (is ∙ second_is) ∙ ap (λ b. counted b first) same

-- ---- what was read

pub known_at : (P : List ℕ → Type 0) (left : Option (List ℕ)) (bytes : List ℕ) → left ≡ Some bytes → IfSome left P → P bytes
known_at P left bytes is p = subst (λ o. IfSome o P) is p

-- the entry of a reading came last
abbrev pub HasCome : List ℕ → Option (List ℕ) → RunRecord → Type 0
HasCome name left r = (front : List Entry) × (input : List ℕ) × (left ≡ Some input)
    × (r.entries ≡ front ++ Happened (Read name input) ∷ [])

has_come : (name : List ℕ) (left : Option (List ℕ)) (before after : Option RunRecord) → TellsBytes (Read name) left before after
    → IfSome after (HasCome name left)
has_come name left before None tells = tt
has_come name left before (Some r) (bytes, here, (was, known, is)) =
    (was.entries, bytes, here, ap (λ (r : RunRecord). r.entries) is)

pub was_read : (name key plain : List ℕ) (most : ℕ) (label left : Option (List ℕ)) (before rest : Option RunRecord)
    → IfSome left (λ input. IsGood key most label input plain) → TellsBytes (Read name) left before rest
    → IfSome rest (λ r. WasRead r.entries key plain)
was_read name key plain most label left before rest good tells = at rest (has_come name left before rest tells)
  where
    at : (rest : Option RunRecord) → IfSome rest (HasCome name left) → IfSome rest (λ r. WasRead r.entries key plain)
    at None come = tt
    at (Some r) (front, input, here, is) = (
      length front,
      name,
      input,
      most,
      ap (λ l. slice_get l (length front)) is ∙ get_end front (Happened (Read name input)),
      (known_at (λ bytes. IsGood key most label bytes plain) left input here good).0,
    )

-- it is good, and has this header
abbrev pub IsHeaded : List ℕ → ℕ → Option (List ℕ) → List ℕ → List ℕ → Type 0
IsHeaded key most label header first = HasHeader header first × (plain : List ℕ) × IsGood key most label first plain

pub headed_of : (key header : List ℕ) (most n : ℕ) (label left : Option (List ℕ)) → IfSome left (HasHeader header)
    → IfSome left (λ input. OpensTo key most input n × IsLabelled label input) → IfSome left (IsHeaded key most label header)
headed_of key header most n label None has good = tt
headed_of key header most n label (Some input) has ((plain, opens, count), labelled) = (has, plain, (opens, labelled))

long : (l : List Entry) (e : Entry) → length (l ++ e ∷ []) ≡ suc (length l)
long l e = let more = length-append l (e ∷ []) in omega (arith, more)

pub was_again : (name key header : List ℕ) (most : ℕ) (label left next : Option (List ℕ)) (start before after : Option RunRecord)
    → IfSome left (IsHeaded key most label header) → TellsBytes (Repeated name) next before after
    → TellsBytes (Read name) left start before → IfSome after (IsAgainIn key header next)
was_again name key header most label left next start before None headed again tells = tt
was_again name key header most label left next start before (Some r) headed (last, there, (was, known, is)) tells =
    let (front, first, here, was_is) = subst (λ o. IfSome o (HasCome name left)) known (has_come name left start before tells) in
    let (has, plain, good) = known_at (IsHeaded key most label header) left first here headed in
    let e : Entry = Happened (Read name first) in
    let f : Entry = Happened (Repeated name last) in
    let all : r.entries ≡ (front ++ e ∷ []) ++ f ∷ [] = ap (λ (x : RunRecord). x.entries) is ∙ ap (λ l. l ++ f ∷ []) was_is in
    let behind : slice_get ((front ++ e ∷ []) ++ f ∷ []) (suc (length front)) ≡ Some f =
    subst (λ n. slice_get ((front ++ e ∷ []) ++ f ∷ []) n ≡ Some f) (long front e) (get_end (front ++ e ∷ []) f) in (
      last,
      there,
      subst (λ l. WasReadAgain l key header last) (sym all) (
        length front,
        name,
        first,
        plain,
        most,
        get_more (front ++ e ∷ []) f e (length front) (get_end front e),
        behind,
        good.0,
        has.0,
        has.1,
      ),
    )

-- ---- a file that has a fault, or can't be read again

refused_entry : (key : List ℕ) (most : ℕ) (label : Option (List ℕ)) (output name : List ℕ) (f : FileFault) (input : List ℕ)
    (new : List Entry) → IsFaultOf key most label input f → new ≡ Happened (Read name input) ∷ []
    → AddsOpenedRead key most label output name (Failed f) new
refused_entry key most label output name OutputExists input new why is = absurd why
refused_entry key most label output name CannotCreate input new why is = absurd why
refused_entry key most label output name Changed input new why is = absurd why
refused_entry key most label output name (Unopened bytes.OutOfMemory) input new why is = inl (input, why, is)
refused_entry key most label output name (Unopened bytes.Read) input new why is = inl (input, is)
refused_entry key most label output name (Unopened bytes.Write) input new why is = absurd why
refused_entry key most label output name _ input new why is = (input, why, is)

pub refused_read : (key : List ℕ) (most : ℕ) (label : Option (List ℕ)) (output name : List ℕ) (left : Option (List ℕ))
    (f : FileFault) (before after : Option RunRecord) → IfSome left (λ input. IsFaultOf key most label input f)
    → TellsBytes (Read name) left before after → Grows (AddsOpenedRead key most label output name (Failed f)) before after
refused_read key most label output name left f before after why tells =
    grows_to (Reads (Read name) left) (AddsOpenedRead key most label output name (Failed f)) (λ new (bytes, here, is).
    refused_entry key most label output name f bytes new (known_at (λ input. IsFaultOf key most label input f) left bytes here why) is)
    before after (told_grows (Read name) left before after tells)

-- what comes where it can't be read again
pub unrepeated : (key header : List ℕ) (most : ℕ) (label : Option (List ℕ)) (name : List ℕ) (left : Option (List ℕ))
    (kind : List Entry → Type 0) (before one two : Option RunRecord)
    → ((new : List Entry) → AddsUnrepeated key most label name new → kind new) → IfSome left (IsHeaded key most label header)
    → Becomes (with_entry (Happened (Unrepeated name))) one two → TellsBytes (Read name) left before one → Grows kind before two
unrepeated key header most label name left kind before one two makes headed fails tells =
    grows_on (Reads (Read name) left) (λ new. new ≡ Happened (Unrepeated name) ∷ []) kind (λ a b (first, here, is) un.
    let (has, plain, good) = known_at (IsHeaded key most label header) left first here headed in
    makes (a ++ b) (first, plain, good, (λ i. is i ++ un i))) before one two (told_grows (Read name) left before one tells)
    (grows_by (λ new. new ≡ Happened (Unrepeated name) ∷ []) (Happened (Unrepeated name)) refl one two fails)

pub not_repeated : (key header : List ℕ) (most : ℕ) (label : Option (List ℕ)) (output name : List ℕ) (left : Option (List ℕ))
    (before one two : Option RunRecord) → IfSome left (IsHeaded key most label header)
    → Becomes (with_entry (Happened (Unrepeated name))) one two → TellsBytes (Read name) left before one
    → Grows (AddsOpenedRead key most label output name (Failed (Unopened bytes.Read))) before two
not_repeated key header most label output name left before one two =
    unrepeated key header most label name left (AddsOpenedRead key most label output name (Failed (Unopened bytes.Read))) before one two
    (λ new lost. inr (inl lost))

-- ---- by one reading

-- the output was finished
pub restored_once : (key : List ℕ) (most n : ℕ) (label : Option (List ℕ)) (output name plain : List ℕ) (left : Option (List ℕ))
    (before one two : Option RunRecord) → IfSome left (λ input. IsGood key most label input plain) → n ≡ length plain
    → Grows (λ new. new ≡ closed_output output (Plain key plain) plain 0 Finished ∷ []) one two
    → TellsBytes (Read name) left before one → Grows (AddsOpenedRead key most label output name (Opened n)) before two
restored_once key most n label output name plain left before one two good count put tells =
    grows_on (Reads (Read name) left) (λ new. new ≡ closed_output output (Plain key plain) plain 0 Finished ∷ [])
    (AddsOpenedRead key most label output name (Opened n)) (λ a b (bytes, here, is) ends. (
      plain,
      count,
      inl (bytes, known_at (λ input. IsGood key most label input plain) left bytes here good, (λ i. is i ++ ends i)),
    )) before one two (told_grows (Read name) left before one tells) put

-- it was refused, or given up
unfilled_entry : (key : List ℕ) (most : ℕ) (label : Option (List ℕ)) (output name plain input : List ℕ) (f : FillFault)
    (a b : List Entry) → IsGood key most label input plain → a ≡ Happened (Read name input) ∷ []
    → LacksPlain output key plain f b
    → AddsOpenedRead key most label output name (Failed (fault_of_fill f)) (a ++ b)
unfilled_entry key most label output name plain input (Uncreated refusal.Exists) a b good is put =
    (input, plain, Happened (Read name input) ∷ [], good, inl refl, (λ i. is i ++ put i))
unfilled_entry key most label output name plain input (Uncreated refusal.Failed) a b good is put =
    (input, plain, Happened (Read name input) ∷ [], good, inl refl, (λ i. is i ++ put i))
unfilled_entry key most label output name plain input (Unfilled stopped) a b good is (same, written, front, put) =
    subst (λ s. AddsOpenedRead key most label output name (Failed (fault_of_fill (Unfilled s))) (a ++ b)) (sym same)
    (inl (input, plain, written, good, front, (λ i. is i ++ put i)))

pub unfilled_once : (key : List ℕ) (most : ℕ) (label : Option (List ℕ)) (output name plain : List ℕ) (left : Option (List ℕ))
    (f : FillFault) (fault : FileFault) (before one two : Option RunRecord) → fault ≡ fault_of_fill f
    → IfSome left (λ input. IsGood key most label input plain) → Grows (LacksPlain output key plain f) one two
    → TellsBytes (Read name) left before one → Grows (AddsOpenedRead key most label output name (Failed fault)) before two
unfilled_once key most label output name plain left f fault before one two is_fault good put tells =
    subst (λ x. Grows (AddsOpenedRead key most label output name (Failed x)) before two) (sym is_fault)
    (grows_on (Reads (Read name) left) (LacksPlain output key plain f)
    (AddsOpenedRead key most label output name (Failed (fault_of_fill f))) (λ a b (bytes, here, is) ends.
    unfilled_entry key most label output name plain bytes f a b
    (known_at (λ input. IsGood key most label input plain) left bytes here good) is ends)
    before one two (told_grows (Read name) left before one tells) put)

-- ---- by two readings

-- the file was read again, and what that gave was put to the output
abbrev pub RepeatsInto : List ℕ → List ℕ → List ℕ → ℕ → List ℕ → Result ℕ FillFault → List Entry → Type 0
RepeatsInto name output key most header result new = (last : List ℕ) × (more : List Entry)
    × PutsAgain output key most header last result more × (new ≡ Happened (Repeated name last) ∷ more)

-- what comes with it
abbrev pub PutsLast : List ℕ → List ℕ → ℕ → List ℕ → Option (List ℕ) → Result ℕ FillFault → List Entry → Type 0
PutsLast output key most header next result new =
    (last : List ℕ) × (next ≡ Some last) × PutsAgain output key most header last result new

repeats : (name output key header : List ℕ) (most : ℕ) (next : Option (List ℕ)) (result : Result ℕ FillFault)
    (one two three : Option RunRecord) → TellsBytes (Repeated name) next one two
    → Grows (PutsLast output key most header next result) two three
    → Grows (RepeatsInto name output key most header result) one three
repeats name output key header most next result one two three again put =
    grows_on (Reads (Repeated name) next) (PutsLast output key most header next result)
    (RepeatsInto name output key most header result) (λ a b (bytes, here, is) (last, there, puts).
    let same : last ≡ bytes = cc in
    (bytes, b, subst (λ l. PutsAgain output key most header l result b) same puts, ap (λ l. l ++ b) is))
    one two three (told_grows (Repeated name) next one two again) put

-- the output was finished
pub restored_twice : (key header : List ℕ) (most n : ℕ) (label : Option (List ℕ)) (output name : List ℕ)
    (left next : Option (List ℕ)) (before one two three : Option RunRecord) → IfSome left (IsHeaded key most label header)
    → ((input : List ℕ) → HasHeader header input → IsLabelled label input)
    → Grows (PutsLast output key most header next (Ok n)) two three → TellsBytes (Repeated name) next one two
    → TellsBytes (Read name) left before one → Grows (AddsOpenedRead key most label output name (Opened n)) before three
restored_twice key header most n label output name left next before one two three headed labelled put again tells =
    grows_on (Reads (Read name) left) (RepeatsInto name output key most header (Ok n))
    (AddsOpenedRead key most label output name (Opened n))
    (λ a b (first, here, is) (last, more, (same, plain, opens, count, ends), also).
    let (has, whole, good) = known_at (IsHeaded key most label header) left first here headed in
    let behind : b ≡ Happened (Repeated name last) ∷ closed_output output (Checked key header last) plain 0 Finished ∷ [] =
    also ∙ ap (λ l. Happened (Repeated name last) ∷ l) ends in (
      plain,
      count,
      inr (header, first, last, (whole, good), has, same, (opens, labelled last same), (λ i. is i ++ behind i)),
    )) before one three (told_grows (Read name) left before one tells)
    (repeats name output key header most next (Ok n) one two three again put)

broken_off : (key : List ℕ) (most : ℕ) (label : Option (List ℕ)) (output name : List ℕ) (fault : OpenFault) (new : List Entry)
    → ¬ IsOfBytes fault → AddsBrokenOff (λ _ _. ⊤) key most label output name (Unopened fault) new
    → AddsOpenedRead key most label output name (Failed (Unopened fault)) new
broken_off key most label output name bytes.OutOfMemory new other up = inr up
broken_off key most label output name bytes.Read new other up = inr (inr up)
broken_off key most label output name bytes.Write new other up = inr up
broken_off key most label output name _ new other up = absurd (other tt)

-- readings of which the first opens and the second doesn't, or has another header, differ
pub differ : (key header : List ℕ) (most : ℕ) (label : Option (List ℕ)) (first last : List ℕ) → IsHeaded key most label header first
    → ((plain : List ℕ) → HasHeader header last → opening key most last ≡ Ok plain → ⊥) → first ≢ last
differ key header most label first last (has, plain, good) why same =
    why plain (subst (HasHeader header) same has) (subst (λ (i : List ℕ). opening key most i ≡ Ok plain) same good.0)

-- what came behind the first reading
abbrev pub IsBehind : List ℕ → List ℕ → List Entry → List Entry → Type 0
IsBehind name last more b = b ≡ Happened (Repeated name last) ∷ more

stopped_entry : (key header : List ℕ) (most : ℕ) (label : Option (List ℕ)) (output name first last : List ℕ) (f : FillFault)
    (a more b : List Entry) → IsHeaded key most label header first → a ≡ Happened (Read name first) ∷ []
    → PutsAgain output key most header last (Err f) more → IsBehind name last more b
    → AddsOpenedRead key most label output name (Failed (fault_of_fill f)) (a ++ b)
stopped_entry key header most label output name first last (Uncreated refusal.Exists) a more b (has, plain, good) is put also =
    let behind = also ∙ ap (λ l. Happened (Repeated name last) ∷ l) put in (
      first,
      plain,
      Happened (Read name first) ∷ Happened (Repeated name last) ∷ [],
      good,
      inr (last, refl),
      (λ i. is i ++ behind i),
    )
stopped_entry key header most label output name first last (Uncreated refusal.Failed) a more b (has, plain, good) is put also =
    let behind = also ∙ ap (λ l. Happened (Repeated name last) ∷ l) put in (
      first,
      plain,
      Happened (Read name first) ∷ Happened (Repeated name last) ∷ [],
      good,
      inr (last, refl),
      (λ i. is i ++ behind i),
    )
stopped_entry key header most label output name first last (Unfilled (stop.Refused f)) a more b headed is (written, begun, why, put) also =
    absurd why
stopped_entry key header most label output name first last (Unfilled stop.Changed) a more b (has, plain, good) is (written, begun, why, put) also =
    let behind = also ∙ ap (λ l. Happened (Repeated name last) ∷ l) put in (
      header,
      first,
      last,
      written,
      differ key header most label first last (has, plain, good) why,
      has,
      (plain, good),
      begun,
      (λ i. is i ++ behind i),
    )
stopped_entry key header most label output name first last (Unfilled (stop.Broken f)) a more b (has, plain, good) is (written, begun, why, put) also =
    let behind = also ∙ ap (λ l. Happened (Repeated name last) ∷ l) put
    ∙ ap (λ w. Happened (Repeated name last) ∷ closed_output output (Checked key header last) written (once_if w) GivenUp ∷ []) (lost_by key header most (Some last) (stop.Broken f) why) in
    broken_off key most label output name f (a ++ b) why
    (header, first, last, written, tt, has, (plain, good), begun, (λ i. is i ++ behind i))

-- it was refused, or given up
pub unfilled_twice : (key header : List ℕ) (most : ℕ) (label : Option (List ℕ)) (output name : List ℕ)
    (left next : Option (List ℕ)) (f : FillFault) (fault : FileFault) (before one two three : Option RunRecord)
    → fault ≡ fault_of_fill f → IfSome left (IsHeaded key most label header)
    → Grows (PutsLast output key most header next (Err f)) two three → TellsBytes (Repeated name) next one two
    → TellsBytes (Read name) left before one → Grows (AddsOpenedRead key most label output name (Failed fault)) before three
unfilled_twice key header most label output name left next f fault before one two three is_fault headed put again tells =
    subst (λ x. Grows (AddsOpenedRead key most label output name (Failed x)) before three) (sym is_fault)
    (grows_on (Reads (Read name) left) (RepeatsInto name output key most header (Err f))
    (AddsOpenedRead key most label output name (Failed (fault_of_fill f))) (λ a b (first, here, is) (last, more, ends, also).
    stopped_entry key header most label output name first last f a more b
    (known_at (IsHeaded key most label header) left first here headed) is ends also)
    before one three (told_grows (Read name) left before one tells)
    (repeats name output key header most next (Err f) one two three again put))

-- ---- what a line says of it

-- it can be said of a file whose output has a name
pub fault_fits : (to : Option (List ℕ)) (name : List ℕ) (f : FillFault) (fault : FileFault) → fault ≡ fault_of_fill f → IsOpenable to name
    → IsOfOpening to name (Failed fault)
fault_fits to name f fault is named = subst (λ x. IsOfOpening to name (Failed x)) (sym is) (by f)
  where
    by : (f : FillFault) → IsOfOpening to name (Failed (fault_of_fill f))
    by (Uncreated refusal.Exists) = named
    by (Uncreated refusal.Failed) = named
    by (Unfilled stop.Changed) = named
    by (Unfilled (stop.Refused o)) = named
    by (Unfilled (stop.Broken o)) = named

-- ---- the file is closed

pub closes : (name : List ℕ) (failed : Bool) (failures : Option ℕ) (before after : Option RunRecord)
    → IfSome before (λ _. failures ≡ counted failed (Some 0)) → Tells (Closed name) failures before after
    → Grows (λ new. new ≡ Happened (Closed name (once_if failed)) ∷ []) before after
closes name failed failures before None count tells = tt
closes name failed failures before (Some r) count (n, many, (was, known, is)) =
    let is_count : failures ≡ counted failed (Some 0) = subst (λ o. IfSome o (λ _. failures ≡ counted failed (Some 0))) known count in
    let one : n ≡ once_if failed = count_is failed (Some 0) failures n refl many is_count in
    grows_by (λ new. new ≡ Happened (Closed name (once_if failed)) ∷ []) (Happened (Closed name n))
    (ap (λ m. Happened (Closed name m) ∷ []) one) before (Some r) (was, known, is)

pub nothing_closed : (name : List ℕ) (failures : Option ℕ) (after : RunRecord) → Tells (Closed name) failures None (Some after) → ⊥
nothing_closed name failures after (n, many, (was, known, is)) = cc

closed_file : (adds : FileOutcome → List Entry → Type 0) (name : List ℕ) (left : Option (List ℕ)) (outcome : FileOutcome)
    (first last : Option ℕ) (one read worked closed : Option RunRecord)
    → ((before : Option RunRecord) → TellsBytes (Read name) left before read → Grows (adds outcome) before worked)
    → IfSome worked (λ _. last ≡ counted (reading_failed outcome) first) → IfSome read (λ _. first ≡ Some 0)
    → TellsBytes (Read name) left one read → Tells (Closed name) last worked closed → Grows (AddsClosed adds name outcome) one closed
closed_file adds name left outcome first last one read worked None works count none tells ends = tt
closed_file adds name left outcome first last one read None (Some c) works count none tells ends =
    absurd (nothing_closed name last c ends)
closed_file adds name left outcome first last one None (Some w) (Some c) works count none tells ends = absurd (works None tt)
closed_file adds name left outcome first last one (Some r) (Some w) (Some c) works count none tells ends =
    grows_on (adds outcome) (λ new. new ≡ Happened (Closed name (once_if (reading_failed outcome))) ∷ []) (AddsClosed adds name outcome)
    (λ a b of is. (a, of, ap (λ l. a ++ l) is)) one (Some w) (Some c) (works one tells)
    (closes name (reading_failed outcome) last (Some w) (Some c) (count ∙ ap (counted (reading_failed outcome)) none) ends)

-- what is open has a name, and was opened
restored_of : (key : List ℕ) (most : ℕ) (label : Option (List ℕ)) (output name : List ℕ) (outcome : FileOutcome) (new : List Entry)
    → AddsClosed (AddsOpenedRead key most label output name) name outcome new → AddsOpened key most label output name outcome new
restored_of key most label output name (Failed NoSuffix) new (worked, (input, why, is), all) = absurd why
restored_of key most label output name (Failed CannotOpen) new (worked, (input, why, is), all) = absurd why
restored_of key most label output name outcome new closed = closed

pub closed_restored : (key : List ℕ) (most : ℕ) (label : Option (List ℕ)) (output name : List ℕ) (left : Option (List ℕ))
    (outcome : FileOutcome) (first last : Option ℕ) (one read worked closed : Option RunRecord)
    → ((before : Option RunRecord) → TellsBytes (Read name) left before read
    → Grows (AddsOpenedRead key most label output name outcome) before worked)
    → IfSome worked (λ _. last ≡ counted (reading_failed outcome) first) → IfSome read (λ _. first ≡ Some 0)
    → TellsBytes (Read name) left one read → Tells (Closed name) last worked closed
    → Grows (AddsOpened key most label output name outcome) one closed
closed_restored key most label output name left outcome first last one read worked closed works count none tells ends =
    grows_to (AddsClosed (AddsOpenedRead key most label output name) name outcome) (AddsOpened key most label output name outcome)
    (restored_of key most label output name outcome) one closed
    (closed_file (AddsOpenedRead key most label output name) name left outcome first last one read worked closed works count none tells ends)

-- ---- verifying

checked_of : (key : List ℕ) (most : ℕ) (label : Option (List ℕ)) (name : List ℕ) (outcome : FileOutcome) (new : List Entry)
    → AddsClosed (AddsVerifiedRead key most label name) name outcome new → AddsVerified key most label name outcome new
checked_of key most label name (Failed CannotOpen) new (worked, (input, why, is), all) = absurd why
checked_of key most label name outcome new closed = closed

-- a file was read, and closed: with what is known of its bytes the outcome is so
checked : (key : List ℕ) (most : ℕ) (label : Option (List ℕ)) (name : List ℕ) (left : Option (List ℕ)) (outcome : FileOutcome)
    (failed : Bool) (first last : Option ℕ) (one two three : Option RunRecord)
    → IfSome left (λ input. AddsVerifiedRead key most label name outcome (Happened (Read name input) ∷ []))
    → failed ≡ reading_failed outcome → IfSome two (λ _. first ≡ Some 0) → last ≡ counted failed first
    → Tells (Closed name) last two three → TellsBytes (Read name) left one two
    → Grows (AddsVerified key most label name outcome) one three
checked key most label name left outcome failed first last one two three is same none count ends tells =
    grows_to (AddsClosed (AddsVerifiedRead key most label name) name outcome) (AddsVerified key most label name outcome)
    (checked_of key most label name outcome) one three
    (closed_file (AddsVerifiedRead key most label name) name left outcome first last one two two three
    (λ before tells. grows_to (Reads (Read name) left) (AddsVerifiedRead key most label name outcome)
    (λ new (bytes, here, e). subst (AddsVerifiedRead key most label name outcome) (sym e)
    (known_at (λ input. AddsVerifiedRead key most label name outcome (Happened (Read name input) ∷ [])) left bytes here is))
    before two (told_grows (Read name) left before two tells))
    (if_known two (count ∙ ap (λ b. counted b first) same)) none tells ends)

-- a good file
pub checked_good : (key : List ℕ) (most n : ℕ) (label : Option (List ℕ)) (name : List ℕ) (left : Option (List ℕ)) (first last : Option ℕ)
    (one two three : Option RunRecord) → IfSome left (λ input. OpensTo key most input n × IsLabelled label input)
    → IfSome two (λ _. first ≡ Some 0) → last ≡ first → Tells (Closed name) last two three → TellsBytes (Read name) left one two
    → Grows (AddsVerified key most label name (Good n)) one three
checked_good key most n label name left first last one two three good =
    checked key most label name left (Good n) false first last one two three (by left good) refl
  where
    by : (left : Option (List ℕ)) → IfSome left (λ input. OpensTo key most input n × IsLabelled label input)
        → IfSome left (λ input. AddsVerifiedRead key most label name (Good n) (Happened (Read name input) ∷ []))
    by None good = tt
    by (Some input) (opens, labelled) = (input, opens, labelled, refl)

pub checked_shown : (key header : List ℕ) (most n : ℕ) (label : Option (List ℕ)) (name : List ℕ) (left : Option (List ℕ)) (facts : Facts)
    (first last : Option ℕ) (one two three : Option RunRecord) → IfSome left (λ input. OpensTo key most input n × IsLabelled label input)
    → IfSome left (HasHeader header) → IsOfHeader facts header
    → IfSome two (λ _. first ≡ Some 0) → last ≡ first → Tells (Closed name) last two three → TellsBytes (Read name) left one two
    → Grows (AddsVerified key most label name (Shown n facts)) one three
checked_shown key header most n label name left facts first last one two three good headed shows =
    checked key most label name left (Shown n facts) false first last one two three (by left good headed) refl
  where
    by : (left : Option (List ℕ)) → IfSome left (λ input. OpensTo key most input n × IsLabelled label input)
        → IfSome left (HasHeader header)
        → IfSome left (λ input. AddsVerifiedRead key most label name (Shown n facts) (Happened (Read name input) ∷ []))
    by None good headed = tt
    by (Some input) (opens, labelled) has = (input, opens, labelled, (header, has, shows), refl)

-- one that has a fault
pub unchecked : (key : List ℕ) (most : ℕ) (label : Option (List ℕ)) (name : List ℕ) (left : Option (List ℕ)) (f : FileFault)
    (failed : Bool) (first last : Option ℕ) (one two three : Option RunRecord) → IfSome left (λ input. IsFaultOf key most label input f)
    → failed ≡ reading_failed (Failed f) → IfSome two (λ _. first ≡ Some 0) → last ≡ counted failed first
    → Tells (Closed name) last two three → TellsBytes (Read name) left one two
    → Grows (AddsVerified key most label name (Failed f)) one three
unchecked key most label name left f failed first last one two three why =
    checked key most label name left (Failed f) failed first last one two three (by left why)
  where
    by : (left : Option (List ℕ)) → IfSome left (λ input. IsFaultOf key most label input f)
        → IfSome left (λ input. AddsVerifiedRead key most label name (Failed f) (Happened (Read name input) ∷ []))
    by None why = tt
    by (Some input) why = (input, why, refl)
