-- Files of a group whose outputs wait. One file's output changes at its place. Then the file's entries are those that its
-- line has.
use Rattle.std.proofs.Common.{◌≡◌, ◌⊎◌, ◌∙◌, ℕ, zero, suc, ◌+◌, ◌≤◌, Bool, false, List, [], ◌∷◌, ◌++◌, Option, None, Some, All, refl, sym, ap, ap₂, subst, length, length-append, append-nil, append_assoc, arith, ⊎_elim, Bor, Vec, Global}
use Rattle.std.specs.Prelude.{IfSome, slice_get}
use Rattle.std.proofs.lemmas.Grind.{flat_map-append}
use Rattle.std.proofs.lemmas.List.{map-append}
use Rattle.std.proofs.lemmas.List.Elements.{All-append, All-cons, All-head, All-nil, All-tail}
use Rattle.container_core.specs.Faults.{is_failed_read, is_failed_write}
use Rattle.container_core.specs.Container.{container}
use Rattle.container_core.specs.declared.fault.SealFault.{SealFault}
use Rattle.container_core.specs.declared.fault.SealFault.TheVariants as sealing_fault
use Rattle.crew_core.specs.Batch.{AreOutcomes, IsOutcome}
use Rattle.crew_core.specs.declared.outcome.Outcome.{Outcome}
use Rattle.crew_core.specs.declared.outcome.Outcome.TheVariants as job
use Rattle.io_core.specs.Streams.{IsFront}
use Rattle.journal_core.specs.Range.{prefix_of}
use Rattle.ledger_core.specs.Shared.{SpentView}
use Rattle.ledger_core.specs.declared.fault.IssueFault.{IssueFault}
use Rattle.ledger_core.specs.declared.fault.IssueFault.TheVariants as unissued
use Rattle.folder_core.specs.Record.{Closed, Container, Content, Created, Entry, Finished, GivenUp, Happened, Nothing, Output, RunRecord, State, times_begun}
use Rattle.folder_core.specs.Record as record_of
use Rattle.folder_core.specs.Changes.{Becomes, IsIdle, IsNew, change, closed_at, new_output, set_closed, set_content}
use Rattle.folder_core.specs.Growth.{Grows, with_entries}
use Rattle.folder_core.proofs.Entries.{times_cons}
use Rattle.command_core.specs.declared.line.FileFault.TheVariants.{Unsealed}
use Rattle.command_core.specs.declared.line.FileOutcome.{FileOutcome}
use Rattle.command_core.specs.declared.line.FileOutcome.TheVariants.{Failed, Good, Opened, Sealed, Shown}
use Rattle.command_core.specs.Files.{AddsFiles, FileEntries}
use Rattle.command_core.specs.Lines.{FileLine}
use Rattle.command_core.specs.Putting.{closed_output, once_if}
use Rattle.sealer_core.specs.declared.prepare.Prepared.{Prepared}
use Rattle.sealer_core.specs.declared.prepare.Prepared.TheVariants.{Read, Refused, Unread}
use Rattle.sealer_core.specs.Group.{AddsLines, AreEndingIn, AreEvents, AreLeft, AreWaiting, HavePrepared, IsAbandoned, IsEndBy, IsEndIn, IsNewIn, IsOfSeats, IsPut, IsWaiting, filled, left_by, name_of, void_in, waiting_entries}
use Rattle.sealer_core.specs.Sealing.{AddsSealed, HoldsSome, IsWhyGivenUp, SealedUnder, container_by, given_up_in, line_of, number_given_up, sealed_name, unissued_as}

-- ---- one entry among others

pub change_after : (base entries : List Entry) (place n : ℕ) (f : Output → Output) → place ≡ length base + n
    → change place f (base ++ entries) ≡ base ++ change n f entries
change_after [] entries place n f at = ap (λ p. change p f entries) (omega (arith, at))
change_after (x ∷ base) entries zero n f at = absurd (omega (arith, at))
change_after (x ∷ base) entries (suc place) n f at = ap (λ l. x ∷ l) (change_after base entries place n f (omega (arith, at)))

get_after : (base entries : List Entry) (place n : ℕ) → place ≡ length base + n → slice_get (base ++ entries) place ≡ slice_get entries n
get_after [] entries place n at = ap (slice_get entries) (omega (arith, at))
get_after (x ∷ base) entries zero n at = absurd (omega (arith, at))
get_after (x ∷ base) entries (suc place) n at = get_after base entries place n (omega (arith, at))

-- the three entries of a file whose output waits
module _ (base more : List Entry) (e c : Entry) (o : Output) (place : ℕ) (at : place ≡ suc (length base)) where
  change_middle : (f : Output → Output)
      → change place f (base ++ (e ∷ Created o ∷ c ∷ [] ++ more)) ≡ base ++ (e ∷ Created (f o) ∷ c ∷ [] ++ more)
  change_middle f = change_after base (e ∷ Created o ∷ c ∷ more) place 1 f (omega (arith, at))

  get_middle : slice_get (base ++ (e ∷ Created o ∷ c ∷ more)) place ≡ Some (Created o)
  get_middle = get_after base (e ∷ Created o ∷ c ∷ more) place 1 (omega (arith, at))

-- ---- the lines of files

pub one_file : (adds : List ℕ → FileOutcome → List Entry → Type 0) (line : FileLine) (new : List Entry) → adds line.name line.outcome new → AddsFiles adds (line ∷ []) new
one_file adds line new is =
    let file : FileEntries = record { line = line; entries = new } in
    let its = λ (f : FileEntries). adds f.line.name f.line.outcome f.entries in
    record { files = file ∷ []; lined = refl; each = All-cons its file [] is (All-nil its); joined = sym (append-nil new) }

pub files_append : (adds : List ℕ → FileOutcome → List Entry → Type 0) (lines more : List FileLine) (one two : List Entry)
    → AddsFiles adds lines one → AddsFiles adds more two → AddsFiles adds (lines ++ more) (one ++ two)
files_append adds lines more one two d e = record {
  files = d.files ++ e.files;
  lined = map-append (λ (f : FileEntries). f.line) d.files e.files ∙ ap₂ (λ a b. a ++ b) d.lined e.lined;
  each = All-append (λ (f : FileEntries). adds f.line.name f.line.outcome f.entries) d.files e.files d.each e.each;
  joined = ap₂ (λ a b. a ++ b) d.joined e.joined ∙ sym (flat_map-append (λ (f : FileEntries). f.entries) d.files e.files);
}

pub no_lines : (under : SealedUnder) → AddsLines under [] [] []
no_lines under = (record { files = []; lined = refl; each = All-nil (λ (f : FileEntries). AddsSealed under f.line.name f.line.outcome f.entries); joined = refl }, refl)

pub given_up_more : (done new : List Entry) → given_up_in (done ++ new) ≡ given_up_in done ++ given_up_in new
given_up_more done new = flat_map-append number_given_up done new

lines_more : (under : SealedUnder) (lines : List FileLine) (voids : List ℕ) (done : List Entry) (name : List ℕ) (end : FileOutcome) (void : List ℕ) (new : List Entry)
    → AddsLines under lines voids done → AddsSealed under name end new → void ≡ given_up_in new
    → AddsLines under (lines ++ line_of name end ∷ []) (voids ++ void) (done ++ new)
lines_more under lines voids done name end void new (all, is) adds its =
    (files_append (AddsSealed under) lines (line_of name end ∷ []) done new all (one_file (AddsSealed under) (line_of name end) new adds), ap₂ (λ a b. a ++ b) is its ∙ sym (given_up_more done new))

-- ---- entries without an output

none_given_up : (new : List Entry) → AreEvents new → given_up_in new ≡ []
none_given_up [] are = refl
none_given_up (Created output ∷ new) are = absurd are
none_given_up (Happened event ∷ new) are = none_given_up new are

pub none_begun : (number : ℕ) (new : List Entry) → AreEvents new → times_begun number new ≡ 0
none_begun number [] are = refl
none_begun number (Created output ∷ new) are = absurd are
none_begun number (Happened event ∷ new) are =
    let more = none_begun number new are in let all = times_cons number (Happened event) new in omega arith

-- ---- how one file ends

-- the entries of a file that was read, of which the output is this
abbrev read_entries : List ℕ → List ℕ → Output → Bool → List Entry
read_entries name input output failed = Happened (record_of.Read name input) ∷ Created output ∷ Happened (Closed name (once_if failed)) ∷ []

module _ (under : SealedUnder) (name input : List ℕ) where
  adds_given_up : (fault : SealFault) (content : Content) (held : List ℕ) (n : ℕ) → HoldsSome under input content held
      → IsWhyGivenUp under.most (Unsealed fault) input content held → n ≡ once_if (is_failed_write fault)
      → AddsSealed under name (Failed (Unsealed fault)) (Happened (record_of.Read name input)
      ∷ closed_output (sealed_name name) content held n GivenUp ∷ Happened (Closed name (once_if (is_failed_read fault))) ∷ [])
  adds_given_up fault content held n has why count = (
    input,
    closed_output (sealed_name name) content held n GivenUp,
    (content, held, has, why, ap (λ m. closed_output (sealed_name name) content held m GivenUp) count),
    refl,
  )

  adds_unused : (fault : SealFault) → IsWhyGivenUp under.most (Unsealed fault) input Nothing []
      → AddsSealed under name (Failed (Unsealed fault)) (Happened (record_of.Read name input)
      ∷ closed_output (sealed_name name) Nothing [] 0 GivenUp ∷ Happened (Closed name (once_if (is_failed_read fault))) ∷ [])
  adds_unused fault why = adds_given_up fault Nothing [] 0 refl why (unwritten fault why)
    where
      unwritten : (fault : SealFault) → IsWhyGivenUp under.most (Unsealed fault) input Nothing [] → 0 ≡ once_if (is_failed_write fault)
      unwritten sealing_fault.TooLong why = refl
      unwritten sealing_fault.OutOfMemory why = refl
      unwritten sealing_fault.Read why = refl
      unwritten sealing_fault.Write why = absurd (why refl)
      unwritten sealing_fault.TooManyChunks why = absurd why

  adds_unissued : (why : IssueFault) → AddsSealed under name (Failed (unissued_as why)) (Happened (record_of.Read name input)
      ∷ closed_output (sealed_name name) Nothing [] 0 GivenUp ∷ Happened (Closed name 0) ∷ [])
  adds_unissued unissued.Exhausted = (input, closed_output (sealed_name name) Nothing [] 0 GivenUp, (Nothing, [], refl, refl, refl), refl)
  adds_unissued unissued.SeatClosed = (input, closed_output (sealed_name name) Nothing [] 0 GivenUp, (Nothing, [], refl, refl, refl), refl)
  adds_unissued unissued.OutOfMemory = adds_unused sealing_fault.OutOfMemory refl

-- what a change does to a record in which nothing is in hand
record Ended {H : Type 0} (under : SealedUnder) (file : Prepared H) (outcomes : List Outcome) (end : FileOutcome) (base first more : List Entry) (r r' : RunRecord) : Type 0 where
  pub new : List Entry
  pub adds : AddsSealed under (name_of file) end new
  pub void : void_in file outcomes end ≡ given_up_in new
  pub long : length new ≡ length first
  pub is : r' ≡ record r { entries = base ++ (new ++ more) }

module _ {H : Type 0} (at : H → ℕ) (under : SealedUnder) (base more : List Entry) (r r' : RunRecord) (idle : r.in_hand ≡ None) where
  same_record : (change : RunRecord → RunRecord) → Becomes change (Some r) (Some r') → r' ≡ change r
  same_record change (was, known, is) = let same : was ≡ r = cc in is ∙ ap change same

  -- the file's output was closed, and holds this
  module _ (output : H) (name input : List ℕ) (failed : Bool) (there : at output ≡ suc (length base)) (entries : r.entries ≡ base ++ (waiting_entries name input failed ++ more)) where
    waits_new : IsNew (at output) r
    waits_new = record {
      name = sealed_name name;
      idle = idle;
      there = ap (λ l. slice_get l (at output)) entries ∙ get_middle base more (Happened (record_of.Read name input)) (Happened (Closed name (once_if failed))) (new_output (sealed_name name)) (at output) there;
    }

    closed_as : (state : State) (bytes : List ℕ) (n : ℕ) (content : Content) → Becomes (filled (at output) content state bytes n) (Some r) (Some r')
        → r' ≡ record r { entries = base ++ (Happened (record_of.Read name input) ∷ closed_output (sealed_name name) content bytes n state ∷ Happened (Closed name (once_if failed)) ∷ [] ++ more) }
    closed_as state bytes n content becomes =
        same_record (filled (at output) content state bytes n) becomes
        ∙ ap (λ l. record r { entries = change (at output) (set_closed state bytes n) (change (at output) (set_content content) l); in_hand = None }) entries
        ∙ ap (λ l. record r { entries = change (at output) (set_closed state bytes n) l; in_hand = None })
        (change_middle base more (Happened (record_of.Read name input)) (Happened (Closed name (once_if failed))) (new_output (sealed_name name)) (at output) there (set_content content))
        ∙ ap (λ l. record r { entries = l; in_hand = None })
        (change_middle base more (Happened (record_of.Read name input)) (Happened (Closed name (once_if failed))) (set_content content (new_output (sealed_name name))) (at output) there (set_closed state bytes n))
        ∙ ap (λ h. record r {
          entries = base ++ (Happened (record_of.Read name input) ∷ closed_output (sealed_name name) content bytes n state ∷ Happened (Closed name (once_if failed)) ∷ [] ++ more);
          in_hand = h;
        }) (sym idle)

    abandoned_as : IsAbandoned (at output) (Some r) (Some r')
        → r' ≡ record r { entries = base ++ (Happened (record_of.Read name input) ∷ closed_output (sealed_name name) Nothing [] 0 GivenUp ∷ Happened (Closed name (once_if failed)) ∷ [] ++ more) }
    abandoned_as becomes =
        same_record (closed_at (at output) GivenUp [] 0) becomes
        ∙ ap (λ l. record r { entries = change (at output) (set_closed GivenUp [] 0) l; in_hand = None }) entries
        ∙ ap (λ l. record r { entries = l; in_hand = None })
        (change_middle base more (Happened (record_of.Read name input)) (Happened (Closed name (once_if failed))) (new_output (sealed_name name)) (at output) there (set_closed GivenUp [] 0))
        ∙ ap (λ h. record r {
          entries = base ++ (Happened (record_of.Read name input) ∷ closed_output (sealed_name name) Nothing [] 0 GivenUp ∷ Happened (Closed name (once_if failed)) ∷ [] ++ more);
          in_hand = h;
        }) (sym idle)

-- ---- by the file and the outcomes

module _ {H : Type 0} (at : H → ℕ) (under : SealedUnder) (base more : List Entry) (r r' : RunRecord) (idle : r.in_hand ≡ None) where
  -- how it ended, and the outcomes that are left for the inputs of others
  abbrev Goes : Prepared H → List (List ℕ) → List Outcome → FileOutcome → List Entry → Type 0
  Goes file others outcomes end first = Ended under file outcomes end base first more r r' × AreLeft under others (left_by file outcomes)

  -- it was read
  module _ (name : Bor (List ℕ)) (output : H) (bytes : ℕ) (input : List ℕ) (others : List (List ℕ)) (there : at output ≡ suc (length base)) (count : bytes ≡ length input)
      (within : length input ≤ under.most) (entries : r.entries ≡ base ++ (waiting_entries name.now input false ++ more)) where
    abbrev its : Prepared H
    its = Read name output bytes

    abbrev begun : List Entry
    begun = waiting_entries name.now input false

    abbrev given : (output : Output) → List Entry
    given output = read_entries name.now input output false

    read_sealed : (seat : ℕ) (items : Vec ℕ Global) (spent : SpentView) (outcomes : List Outcome) (end : FileOutcome)
        → items.items ≡ container under.key under.shape (prefix_of spent.device spent.number) input → spent.device ≡ under.device → AreLeft under others outcomes
        → IsPut (at output) (Container spent.number under.shape) items.items spent.number bytes end (Some r) (Some r')
        → Goes its others (job.Sealed seat items spent ∷ outcomes) end begun
    read_sealed seat items spent outcomes (Sealed n m) whole device left (same, long, becomes) = (
      record {
        new = given (record { name = sealed_name name.now; content = Container spent.number under.shape; bytes = items.items; failures = 0; state = Finished });
        adds = (
          input,
          closed_output (sealed_name name.now) (Container spent.number under.shape) items.items 0 Finished,
          (
            long ∙ count,
            within,
            ap (λ l. closed_output (sealed_name name.now) (Container spent.number under.shape) l 0 Finished)
                (whole ∙ ap (λ d. container under.key under.shape (prefix_of d spent.number) input) device)
                ∙ ap (λ k. closed_output (sealed_name name.now) (Container k under.shape) (container_by under k input) 0 Finished) (sym same),
          ),
          refl,
        );
        void = refl;
        long = refl;
        is = closed_as at under base more r r' idle output name.now input false there entries Finished items.items 0 (Container spent.number under.shape) becomes;
      },
      left,
    )
    read_sealed seat items spent outcomes (Failed fault) whole device left (same, (held, front, becomes)) =
        subst (λ e. Goes its others (job.Sealed seat items spent ∷ outcomes) e begun) (sym same) (
          record {
            new = given (record { name = sealed_name name.now; content = Container spent.number under.shape; bytes = held; failures = 1; state = GivenUp });
            adds = adds_given_up under name.now input sealing_fault.Write (Container spent.number under.shape) held 1
                (refl, subst (IsFront held) (whole ∙ ap (λ d. container under.key under.shape (prefix_of d spent.number) input) device) front)
                (λ is. cc) refl;
            void = refl;
            long = refl;
            is = closed_as at under base more r r' idle output name.now input false there entries GivenUp held 1 (Container spent.number under.shape) becomes;
          },
          left,
        )
    read_sealed seat items spent outcomes (Opened n) whole device left (same, put) = absurd (cc)
    read_sealed seat items spent outcomes (Good n) whole device left (same, put) = absurd (cc)
    read_sealed seat items spent outcomes (Shown n facts) whole device left (same, put) = absurd (cc)

    read_ended : (outcomes : List Outcome) (end : FileOutcome) → AreLeft under (input ∷ others) outcomes
        → IsEndBy (at output) under.shape bytes outcomes end (Some r) (Some r') → Goes its others outcomes end begun
    read_ended [] end left (same, becomes) =
        subst (λ e. Goes its others [] e begun) (sym same) (
          record {
            new = given (record { name = sealed_name name.now; content = Nothing; bytes = []; failures = 0; state = GivenUp });
            adds = adds_unused under name.now input sealing_fault.OutOfMemory refl;
            void = refl;
            long = refl;
            is = abandoned_as at under base more r r' idle output name.now input false there entries becomes;
          },
          tt,
        )
    read_ended (job.Sealed seat items spent ∷ outcomes) end (one, of, left) put = read_sealed seat items spent outcomes end one.0 of.0 left put
    read_ended (job.Spoiled seat spent ∷ outcomes) end (one, of, left) (same, becomes) =
        subst (λ e. Goes its others (job.Spoiled seat spent ∷ outcomes) e begun) (sym same) (
          record {
            new = given (record { name = sealed_name name.now; content = Container spent.number under.shape; bytes = []; failures = 0; state = GivenUp });
            adds = adds_given_up under name.now input sealing_fault.OutOfMemory (Container spent.number under.shape) [] 0
                (refl, (container_by under spent.number input, refl)) refl refl;
            void = refl;
            long = refl;
            is = closed_as at under base more r r' idle output name.now input false there entries GivenUp [] 0 (Container spent.number under.shape) becomes;
          },
          left,
        )
    read_ended (job.Unissued seat why ∷ outcomes) end (one, of, left) (same, becomes) =
        subst (λ e. Goes its others (job.Unissued seat why ∷ outcomes) e begun) (sym same) (
          record {
            new = given (record { name = sealed_name name.now; content = Nothing; bytes = []; failures = 0; state = GivenUp });
            adds = adds_unissued under name.now input why;
            void = refl;
            long = refl;
            is = abandoned_as at under base more r r' idle output name.now input false there entries becomes;
          },
          left,
        )

  -- any file
  file_ended : (file : Prepared H) (own others inputs : List (List ℕ)) (place : ℕ) (first : List Entry) (outcomes : List Outcome) (end : FileOutcome)
      → IsWaiting at under file own place first → place ≡ length base → r.entries ≡ base ++ (first ++ more) → inputs ≡ own ++ others → AreLeft under inputs outcomes
      → IsEndIn at under.shape outcomes file end (Some r) (Some r') → Goes file others outcomes end first
  file_ended (Refused name fault) own others inputs place first outcomes end (none, adds, are) here entries all left (same, is) =
      let kept : r' ≡ r = cc in (
        record {
          new = first;
          adds = subst (λ e. AddsSealed under name.now e first) (sym same) adds;
          void = sym (none_given_up first are);
          long = refl;
          is = kept ∙ ap (λ l. record r { entries = l }) entries;
        },
        subst (λ l. AreLeft under l outcomes) (all ∙ ap (λ l. l ++ others) none) left,
      )
  file_ended (Unread name output fault) own others inputs place first outcomes end (input, (there, none, why), is) here entries all left (same, becomes) =
      let waits : r.entries ≡ base ++ (waiting_entries name.now input (is_failed_read fault) ++ more) = entries ∙ ap (λ l. base ++ (l ++ more)) is in
      subst (λ e. Goes (Unread name output fault) others outcomes e first) (sym same) (
        record {
          new = read_entries name.now input (record { name = sealed_name name.now; content = Nothing; bytes = []; failures = 0; state = GivenUp }) (is_failed_read fault);
          adds = adds_unused under name.now input fault why;
          void = refl;
          long = sym (ap length is);
          is = abandoned_as at under base more r r' idle output name.now input (is_failed_read fault) (there ∙ ap suc here) waits becomes;
        },
        subst (λ l. AreLeft under l outcomes) (all ∙ ap (λ l. l ++ others) none) left,
      )
  file_ended (Read name output bytes) own others inputs place first outcomes end (input, (there, one, count, within), is) here entries all left how =
      let waits : r.entries ≡ base ++ (waiting_entries name.now input false ++ more) = entries ∙ ap (λ l. base ++ (l ++ more)) is in
      subst (λ l. Goes (Read name output bytes) others outcomes end l) (sym is)
      (read_ended name output bytes input others (there ∙ ap suc here) count within waits outcomes end
      (subst (λ l. AreLeft under l outcomes) (all ∙ ap (λ l. l ++ others) one) left) how)

  -- and it waits until then
  new_in : (file : Prepared H) (own : List (List ℕ)) (place : ℕ) (first : List Entry) → IsWaiting at under file own place first → place ≡ length base
      → r.entries ≡ base ++ (first ++ more) → IsNewIn at file r
  new_in (Refused name fault) own place first waits here entries = tt
  new_in (Unread name output fault) own place first (input, (there, none, why), is) here entries =
      waits_new at under base more r r idle output name.now input (is_failed_read fault) (there ∙ ap suc here) (entries ∙ ap (λ l. base ++ (l ++ more)) is)
  new_in (Read name output bytes) own place first (input, (there, one, count, within), is) here entries =
      waits_new at under base more r r idle output name.now input false (there ∙ ap suc here) (entries ∙ ap (λ l. base ++ (l ++ more)) is)

-- ---- files of a group, one after the other

module _ {H : Type 0} (at : H → ℕ) (under : SealedUnder) where
  -- where the first of those that wait begins
  module _ (was r : RunRecord) (done first rest : List Entry) (waiting : List Entry) (is : r ≡ with_entries (done ++ waiting) was) (split : waiting ≡ first ++ rest) where
    entries_at : r.entries ≡ (was.entries ++ done) ++ (first ++ rest)
    entries_at = ap (λ (x : RunRecord). x.entries) is ∙ ap (λ l. was.entries ++ (done ++ l)) split ∙ sym (append_assoc was.entries done (first ++ rest))

  place_at : (was : RunRecord) (done : List Entry) → length was.entries + length done ≡ length (was.entries ++ done)
  place_at was done = sym (length-append was.entries done)

  pub first_new : (lines : List FileLine) (voids : List ℕ) (file : Prepared H) (left items : List (Prepared H)) (outcomes : List Outcome) (before rest : Option RunRecord)
      → items ≡ file ∷ left → IsIdle rest → AreEndingIn at under lines voids items outcomes before rest → IfSome rest (IsNewIn at file)
  first_new lines voids file left items outcomes before None longer idle are = tt
  first_new lines voids file left items outcomes before (Some r) longer idle (was, done, waiting, inputs, known, adds, for_left, waits, is) =
      let (own, others, first, rest, one, more, all, split) = subst (λ l. AreWaiting at under l inputs (length was.entries + length done) waiting) longer waits in
      new_in at under (was.entries ++ done) rest r r idle file own (length was.entries + length done) first one (place_at was done)
      (entries_at was r done first rest waiting is split)

  known_before : (file : Prepared H) (outcomes : List Outcome) (end : FileOutcome) (before : Option RunRecord) (r' : RunRecord)
      → IsEndIn at under.shape outcomes file end before (Some r') → (r : RunRecord) × (before ≡ Some r)
  known_before (Refused name fault) outcomes end before r' (same, is) = (r', sym is)
  known_before (Unread name output fault) outcomes end before r' (same, (was, known, is)) = (was, known)
  known_before (Read name output bytes) [] end before r' (same, (was, known, is)) = (was, known)
  known_before (Read name output bytes) (job.Sealed seat items spent ∷ outcomes) (Sealed n m) before r' (same, long, (was, known, is)) = (was, known)
  known_before (Read name output bytes) (job.Sealed seat items spent ∷ outcomes) (Failed fault) before r' (same, (held, front, (was, known, is))) = (was, known)
  known_before (Read name output bytes) (job.Sealed seat items spent ∷ outcomes) (Opened n) before r' (same, put) = absurd (cc)
  known_before (Read name output bytes) (job.Sealed seat items spent ∷ outcomes) (Good n) before r' (same, put) = absurd (cc)
  known_before (Read name output bytes) (job.Sealed seat items spent ∷ outcomes) (Shown n facts) before r' (same, put) = absurd (cc)
  known_before (Read name output bytes) (job.Spoiled seat spent ∷ outcomes) end before r' (same, (was, known, is)) = (was, known)
  known_before (Read name output bytes) (job.Unissued seat why ∷ outcomes) end before r' (same, (was, known, is)) = (was, known)

  -- one more file has its line
  pub one_more_ends : (lines : List FileLine) (voids : List ℕ) (file : Prepared H) (left items : List (Prepared H)) (outcomes outcomes' : List Outcome) (end : FileOutcome)
      (before rest rest' : Option RunRecord) → items ≡ file ∷ left → outcomes' ≡ left_by file outcomes → IsIdle rest → AreEndingIn at under lines voids items outcomes before rest
      → IsEndIn at under.shape outcomes file end rest rest'
      → AreEndingIn at under (lines ++ line_of (name_of file) end ∷ []) (voids ++ void_in file outcomes end) left outcomes' before rest'
  one_more_ends lines voids file left items outcomes outcomes' end before rest None its next idle are how = tt
  one_more_ends lines voids file left items outcomes outcomes' end before rest (Some r') its next idle are how =
      let (r, now) = known_before file outcomes end rest r' how in
      by r (subst IsIdle now idle) (subst (λ o. AreEndingIn at under lines voids items outcomes before o) now are) (subst (λ o. IsEndIn at under.shape outcomes file end o (Some r')) now how)
    where
      by : (r : RunRecord) → IsIdle (Some r) → AreEndingIn at under lines voids items outcomes before (Some r) → IsEndIn at under.shape outcomes file end (Some r) (Some r')
          → AreEndingIn at under (lines ++ line_of (name_of file) end ∷ []) (voids ++ void_in file outcomes end) left outcomes' before (Some r')
      by r idle (was, done, waiting, inputs, known, adds, for_left, waits, is) how =
          let (own, others, first, more, one, next_ones, all, split) = subst (λ l. AreWaiting at under l inputs (length was.entries + length done) waiting) its waits in
          let (e, for_others) = file_ended at under (was.entries ++ done) more r r' idle file own others inputs (length was.entries + length done) first outcomes end one (place_at was done)
          (entries_at was r done first more waiting is split) all for_left how in
          let long = length-append done e.new in
          let same = e.long in (
            was,
            done ++ e.new,
            more,
            others,
            known,
            lines_more under lines voids done (name_of file) end (void_in file outcomes end) e.new adds e.adds e.void,
            subst (AreLeft under others) (sym next) for_others,
            subst (λ n. AreWaiting at under left others n more) (omega arith) next_ones,
            e.is ∙ ap (λ (x : RunRecord). record x { entries = (was.entries ++ done) ++ (e.new ++ more) }) is
                ∙ ap (λ l. record was { entries = l }) (append_assoc was.entries done (e.new ++ more) ∙ ap (λ l. was.entries ++ l) (sym (append_assoc done e.new more))),
          )

  -- all have theirs
  pub all_end : (lines : List FileLine) (voids : List ℕ) (left : List (Prepared H)) (outcomes : List Outcome) (before rest : Option RunRecord) → left ≡ []
      → AreEndingIn at under lines voids left outcomes before rest → Grows (AddsLines under lines voids) before rest
  all_end lines voids left outcomes before None none are = tt
  all_end lines voids left outcomes before (Some r) none (was, done, waiting, inputs, known, adds, for_left, waits, is) =
      let (no_inputs, empty) = subst (λ l. AreWaiting at under l inputs (length was.entries + length done) waiting) none waits in
      subst (λ o. Grows (AddsLines under lines voids) o (Some r)) (sym known)
      (done, adds, is ∙ ap (λ l. with_entries l was) (ap (λ l. done ++ l) empty ∙ append-nil done))

  -- none has
  pub none_ends : (files : List (Prepared H)) (inputs : List (List ℕ)) (outcomes : List Outcome) (before rest : Option RunRecord) → AreLeft under inputs outcomes
      → HavePrepared at under files inputs before rest → AreEndingIn at under [] [] files outcomes before rest
  none_ends files inputs outcomes before None left are = tt
  none_ends files inputs outcomes before (Some r) left (was, new, known, waits, is) =
      (was, [], new, inputs, known, no_lines under, left, subst (λ n. AreWaiting at under files inputs n new) (omega arith) waits, is)

-- ---- the outcomes of a batch

left_all : (under : SealedUnder) (inputs : List (List ℕ)) (outcomes : List Outcome) (seats : ℕ) → length outcomes ≡ length inputs
    → ((n : ℕ) (input : List ℕ) (o : Outcome) → slice_get inputs n ≡ Some input → slice_get outcomes n ≡ Some o → IsOutcome under.key under.shape input o)
    → All (IsOfSeats seats under.device) outcomes → AreLeft under inputs outcomes
left_all under inputs [] seats count each held = tt
left_all under [] (o ∷ outcomes) seats count each held = absurd (omega (arith, count))
left_all under (input ∷ inputs) (o ∷ outcomes) seats count each held = (
  each 0 input o refl refl,
  (All-head (IsOfSeats seats under.device) o outcomes held).1,
  left_all under inputs outcomes seats (omega (arith, count)) (λ n i x at also. each (suc n) i x at also) (All-tail (IsOfSeats seats under.device) o outcomes held),
)

pub are_left : (under : SealedUnder) (jobs inputs : List (List ℕ)) (outcomes : List Outcome) (seats : ℕ) → jobs ≡ inputs
    → (outcomes ≡ []) ⊎ AreOutcomes under.key under.shape jobs outcomes → All (IsOfSeats seats under.device) outcomes → AreLeft under inputs outcomes
are_left under jobs inputs outcomes seats same how held = subst (λ l. AreLeft under l outcomes) same (⊎_elim
    (λ (none : outcomes ≡ []). subst (AreLeft under jobs) (sym none) tt)
    (λ (all : AreOutcomes under.key under.shape jobs outcomes). left_all under jobs outcomes seats all.count all.each held)
    how)
