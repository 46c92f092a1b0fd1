-- One output that is created, filled and closed: what it may hold before each call, and what is known at the end.
use Rattle.std.proofs.Common.{◌≡◌, inl, inr, ℕ, Bool, true, false, List, [], ◌∷◌, ◌++◌, length, Option, None, Some, refl, sym, ap, ap₂, ◌∙◌, subst, append-nil}
use Rattle.std.specs.Prelude.{⊤, ◌⊎◌, IfSome, Result, Ok, Err, slice_get, option_map, if◌then◌else◌}
use Rattle.container_core.specs.Opening.{opening}
use Rattle.io_core.specs.Streams.{Appends, AppendsFront, IsFront, Keeps, counted}
use Rattle.container_core.specs.declared.fault.OpenFault.{OpenFault}
use Rattle.container_core.specs.declared.fault.OpenFault.TheVariants as bytes
use Rattle.container_core.specs.Faults.{IsOfBytes}
use Rattle.opening_core.specs.declared.twice.Stopped.{Stopped}
use Rattle.opening_core.specs.declared.twice.Stopped.TheVariants.{Broken, Changed, Refused}
use Rattle.opening_core.specs.Engine.{HasHeader}
use Rattle.opening_core.specs.Twice.{MayWrite, WritesAll, WritesSome, broken_by_read, broken_by_write}
use Rattle.opening_core.specs.Windows.{HasSent}
use Rattle.output_core.specs.Bounds.{Admits, Allows}
use Rattle.folder_core.specs.Record.{Checked, Content, Created, Entry, Finished, GivenUp, IsAllowed, Plain, RunRecord, State, WasRead, bound_in, bound_of, content_at}
use Rattle.folder_core.specs.Changes.{Becomes, Closes, IsFresh, IsIdle, IsNumberFree, MayHold, allowed, new_output, set_content, with_entry}
use Rattle.folder_core.specs.Growth.{Grows, PutsOut}
use Rattle.folder_core.proofs.Entries.{change_get, get_end}
use Rattle.folder_core.proofs.Growth.{puts_out}
use Rattle.folder_core.proofs.Sound.{again_more, read_more}
use Rattle.folder_core.specs.declared.fault.FolderFault.{FolderFault}
use Rattle.folder_core.specs.declared.fault.FolderFault.TheVariants as folder_fault
use Rattle.command_core.specs.declared.line.FileFault.{FileFault}
use Rattle.command_core.specs.declared.line.FileFault.TheVariants.{SpoolFailed, Unopened}
use Rattle.command_core.specs.declared.line.FileOutcome.TheVariants.{Failed}
use Rattle.command_core.specs.declared.putting.FillFault.TheVariants.{Uncreated, Unfilled}
use Rattle.command_core.specs.Again.{IsAgainFault, IsBegun}
use Rattle.command_core.specs.Putting.{IsAgainIn, closed_output, fault_of_fill, fault_of_stop, once_if}
use Rattle.command_core.specs.Work.{IsOfOpening, IsOfVerifying, file_read_failed, file_write_failed, reading_failed}

-- ---- before it is taken in hand

may_new : (place : ℕ) (name : List ℕ) (content : Content) (was : RunRecord) → was.in_hand ≡ None → place ≡ length was.entries
    → IsAllowed was.under (was.entries ++ Created (new_output name) ∷ []) content
    → IsNumberFree (was.entries ++ Created (new_output name) ∷ []) content
    → MayHold place content (with_entry (Created (new_output name)) was)
may_new place name content was idle at may free = record {
  new = record {
    name = name;
    idle = idle;
    there = ap (slice_get (was.entries ++ Created (new_output name) ∷ [])) at ∙ get_end was.entries (Created (new_output name));
  };
  allowed = may;
  free = free;
}

pub may_plain : (place : ℕ) (name key plain : List ℕ) (before created : Option RunRecord) → IsIdle before
    → IfSome before (λ r. WasRead r.entries key plain) → IfSome before (λ r. place ≡ length r.entries)
    → Becomes (with_entry (Created (new_output name))) before created → IfSome created (MayHold place (Plain key plain))
may_plain place name key plain before None idle read at new = tt
may_plain place name key plain before (Some r) idle read at (was, known, is) =
    subst (MayHold place (Plain key plain)) (sym is) (may_new place name (Plain key plain) was
    (subst (λ o. IfSome o (λ r. r.in_hand ≡ None)) known idle) (subst (λ o. IfSome o (λ r. place ≡ length r.entries)) known at)
    (read_more was.entries (Created (new_output name)) key plain (subst (λ o. IfSome o (λ r. WasRead r.entries key plain)) known read)) tt)

pub may_checked : (place : ℕ) (name key header : List ℕ) (left : Option (List ℕ)) (before created : Option RunRecord)
    → IsIdle before → IfSome before (IsAgainIn key header left)
    → IfSome before (λ r. place ≡ length r.entries) → Becomes (with_entry (Created (new_output name))) before created
    → IfSome created (λ r. (last : List ℕ) × (left ≡ Some last) × MayHold place (Checked key header last) r)
may_checked place name key header left before None idle read at new = tt
may_checked place name key header left before (Some r) idle read at (was, known, is) =
    let (last, here, again) = subst (λ o. IfSome o (IsAgainIn key header left)) known read in (
      last,
      here,
      subst (MayHold place (Checked key header last)) (sym is) (may_new place name (Checked key header last) was
          (subst (λ o. IfSome o (λ r. r.in_hand ≡ None)) known idle) (subst (λ o. IfSome o (λ r. place ≡ length r.entries)) known at)
          (again_more was.entries (Created (new_output name)) key header last again) tt),
    )

-- ---- in hand

bound_ready : (place : ℕ) (content : Content) (was : RunRecord) → MayHold place content was
    → bound_in (allowed place content was) ≡ bound_of was.under content
bound_ready place content was may =
    ap (λ e. bound_of was.under (content_at e))
    (change_get place (set_content content) was.entries (new_output may.new.name) may.new.there)

pub admits_plain : (place : ℕ) (key plain : List ℕ) (created ready : Option RunRecord) (taken : Option (List ℕ)) (failures : Option ℕ)
    → IfSome created (MayHold place (Plain key plain)) → Becomes (allowed place (Plain key plain)) created ready
    → IsFresh ready taken failures → Admits (option_map bound_in ready) taken plain
admits_plain place key plain created None taken failures may is fresh = tt
admits_plain place key plain created (Some r) taken failures may (was, known, is) fresh =
    let bound : bound_in r ≡ bound_of was.under (Plain key plain) =
    ap bound_in is ∙ bound_ready place (Plain key plain) was (subst (λ o. IfSome o (MayHold place (Plain key plain))) known may) in
    ([], fresh.0, subst (λ b. Allows b plain) (sym bound) ([], sym (append-nil plain)))

abbrev pub IsAllowedAgain : ℕ → List ℕ → List ℕ → Option (List ℕ) → Option RunRecord → Option RunRecord → Type 0
IsAllowedAgain place key header left created ready = IfSome ready (λ _. (last : List ℕ) × (left ≡ Some last)
    × Becomes (allowed place (Checked key header last)) created ready)

same_last : (left : Option (List ℕ)) (one other : List ℕ) → left ≡ Some one → left ≡ Some other → one ≡ other
same_last left one other is also = cc

pub may_fill_again : (place most : ℕ) (key header : List ℕ) (left : Option (List ℕ)) (created ready : Option RunRecord)
    (taken : Option (List ℕ)) (failures : Option ℕ)
    → IfSome created (λ r. (last : List ℕ) × (left ≡ Some last) × MayHold place (Checked key header last) r)
    → IsAllowedAgain place key header left created ready → IsFresh ready taken failures
    → IfSome (option_map bound_in ready) (MayWrite key header most left taken)
may_fill_again place most key header left created None taken failures may is fresh = tt
may_fill_again place most key header left created (Some r) taken failures may (last, here, (was, known, is)) fresh =
    let (other, also, held) = subst (λ o. IfSome o (λ r. (last : List ℕ) × (left ≡ Some last) × MayHold place (Checked key header last) r)) known may in
    let bound : bound_in r ≡ bound_of was.under (Checked key header last) =
    ap bound_in is ∙ bound_ready place (Checked key header last) was
    (subst (λ l. MayHold place (Checked key header l) was) (same_last left other last also here) held) in
    ([], last, fresh.0, here, inl bound)

-- ---- closed

pub put_closed : (P : RunRecord → Type 0) (kind : List Entry → Type 0) (name : List ℕ) (content : Content) (state : State) (place : ℕ)
    (start taken : Option (List ℕ)) (zero failures : Option ℕ) (before created ready filled after : Option RunRecord) → IsIdle before
    → IfSome before (λ r. place ≡ length r.entries) → Becomes (with_entry (Created (new_output name))) before created
    → Becomes (allowed place content) created ready → IsFresh ready start zero → filled ≡ ready
    → Closes state filled taken failures after → IfSome before P
    → ((was : RunRecord) → P was → (bytes : List ℕ) (n : ℕ) → start ≡ Some [] → zero ≡ Some 0 → taken ≡ Some bytes → failures ≡ Some n
    → kind (closed_output name content bytes n state ∷ []))
    → Grows kind before after
put_closed P kind name content state place start taken zero failures before created ready filled after idle at new may fresh same closes p makes =
    as_kind before after p closes
    (puts_out name content state taken failures place before created ready after idle at new may
    (subst (λ o. Closes state o taken failures after) same closes))
  where
    as_kind : (before after : Option RunRecord) → IfSome before P → Closes state filled taken failures after
        → Grows (PutsOut name content state taken failures) before after → Grows kind before after
    as_kind before None p closes grew = tt
    as_kind None (Some after) p closes grew = absurd grew
    as_kind (Some before) (Some after) p (was, held, m, known, t, f, i) (new, (bytes, n, took, count, is), whole) =
        let both : (start ≡ Some []) × (zero ≡ Some 0) = subst (λ o. IsFresh o start zero) (sym same ∙ known) fresh in
        (new, subst kind (sym is) (makes before p bytes n both.0 both.1 took count), whole)

-- the same, of what a second reading gives
pub put_again_closed : (kind : List Entry → Type 0) (name key header : List ℕ) (left : Option (List ℕ)) (state : State) (place : ℕ)
    (start taken : Option (List ℕ)) (zero failures : Option ℕ) (before created ready filled after : Option RunRecord) → IsIdle before
    → IfSome before (λ r. place ≡ length r.entries) → Becomes (with_entry (Created (new_output name))) before created
    → IsAllowedAgain place key header left created ready → IsFresh ready start zero → filled ≡ ready
    → Closes state filled taken failures after
    → ((last : List ℕ) → left ≡ Some last → (bytes : List ℕ) (n : ℕ) → start ≡ Some [] → zero ≡ Some 0 → taken ≡ Some bytes
    → failures ≡ Some n → kind (closed_output name (Checked key header last) bytes n state ∷ []))
    → Grows kind before after
put_again_closed kind name key header left state place start taken zero failures before created ready filled None idle at new may fresh same
    closes makes = tt
put_again_closed kind name key header left state place start taken zero failures before created ready filled (Some after) idle at new may fresh
    same closes makes =
    let (was, held, m, known, t, f, i) = closes in
    let (last, here, allows) = subst (λ o. IfSome o (λ _. (last : List ℕ) × (left ≡ Some last)
    × Becomes (allowed place (Checked key header last)) created ready)) (sym same ∙ known) may in
    put_closed (λ _. ⊤) kind name (Checked key header last) state place start taken zero failures before created ready filled (Some after) idle at
    new allows fresh same closes (anything before) (λ was p. makes last here)
  where
    anything : (rest : Option RunRecord) → IfSome rest (λ _. ⊤)
    anything None = tt
    anything (Some r) = tt

whole_is : (start taken : Option (List ℕ)) (bytes plain : List ℕ) → start ≡ Some [] → taken ≡ Some bytes → Appends start taken plain
    → bytes ≡ plain
whole_is start taken bytes plain empty some grew =
    subst (λ o. Appends (Some []) o plain) some (subst (λ o. Appends o taken plain) empty grew)

front_is : (start taken : Option (List ℕ)) (bytes plain : List ℕ) → start ≡ Some [] → taken ≡ Some bytes
    → AppendsFront start taken plain → IsFront bytes plain
front_is start taken bytes plain empty some (front, is, grew) =
    subst (λ b. IsFront b plain) (sym (whole_is start taken bytes front empty some grew)) is

pub count_is : (failed : Bool) (zero failures : Option ℕ) (n : ℕ) → zero ≡ Some 0 → failures ≡ Some n → failures ≡ counted failed zero
    → n ≡ (if failed then 1 else 0)
count_is false zero failures n start some is = cc
count_is true zero failures n start some is =
    let one : counted true zero ≡ Some 1 = ap (counted true) start in cc

-- a plaintext's output is whole
pub plain_whole : (name key plain : List ℕ) (start taken : Option (List ℕ)) (zero failures : Option ℕ) → Appends start taken plain
    → failures ≡ counted false zero → (bytes : List ℕ) (n : ℕ) → start ≡ Some [] → zero ≡ Some 0 → taken ≡ Some bytes → failures ≡ Some n
    → closed_output name (Plain key plain) bytes n Finished ∷ [] ≡ closed_output name (Plain key plain) plain 0 Finished ∷ []
plain_whole name key plain start taken zero failures grew count bytes n empty nil some many =
    ap₂ (λ b m. closed_output name (Plain key plain) b m Finished ∷ []) (whole_is start taken bytes plain empty some grew)
    (count_is false zero failures n nil many count)

-- it has a prefix of the plaintext
pub plain_part : (name key plain : List ℕ) (start taken : Option (List ℕ)) (zero failures : Option ℕ) → AppendsFront start taken plain
    → failures ≡ counted true zero → (bytes : List ℕ) (n : ℕ) → start ≡ Some [] → zero ≡ Some 0 → taken ≡ Some bytes → failures ≡ Some n
    → (written : List ℕ) × IsFront written plain
    × (closed_output name (Plain key plain) bytes n GivenUp ∷ [] ≡ closed_output name (Plain key plain) written 1 GivenUp ∷ [])
plain_part name key plain start taken zero failures front count bytes n empty nil some many = (
  bytes,
  front_is start taken bytes plain empty some front,
  ap (λ m. closed_output name (Plain key plain) bytes m GivenUp ∷ []) (count_is true zero failures n nil many count),
)

pub all_front : (start taken : Option (List ℕ)) (plain : List ℕ) → Appends start taken plain → AppendsFront start taken plain
all_front start taken plain grew = (plain, ([], sym (append-nil plain)), grew)

-- ---- of a second reading

-- what a second reading wrote
abbrev pub HasWritten : List ℕ → ℕ → List ℕ → Option (List ℕ) → Option (List ℕ) → Option (List ℕ) → ℕ → Type 0
HasWritten key most header left start taken n = (input : List ℕ) × HasHeader header input × WritesAll key most start taken input n
    × IfSome left (λ bytes. bytes ≡ input)

pub given : (key : List ℕ) (most : ℕ) (header : List ℕ) (left start taken : Option (List ℕ)) (last : List ℕ) (n : ℕ) → left ≡ Some last
    → HasWritten key most header left start taken n → HasHeader header last × WritesAll key most start taken last n
given key most header left start taken last n here (input, headed, wrote, is) =
    let same : last ≡ input = subst (λ o. IfSome o (λ bytes. bytes ≡ input)) here is in
    subst (λ i. HasHeader header i × WritesAll key most start taken i n) (sym same) (headed, wrote)

pub again_whole : (name key : List ℕ) (most : ℕ) (header : List ℕ) (left start taken : Option (List ℕ)) (last : List ℕ) (count : ℕ)
    (zero failures : Option ℕ) → left ≡ Some last → HasWritten key most header left start taken count → failures ≡ counted false zero
    → (bytes : List ℕ) (n : ℕ) → start ≡ Some [] → zero ≡ Some 0 → taken ≡ Some bytes → failures ≡ Some n
    → HasHeader header last × (plain : List ℕ) × (opening key most last ≡ Ok plain) × (count ≡ length plain)
    × (closed_output name (Checked key header last) bytes n Finished ∷ [] ≡ closed_output name (Checked key header last) plain 0 Finished ∷ [])
again_whole name key most header left start taken last count zero failures here wrote counts bytes n empty nil some many =
    let (headed, (plain, opens, grew, long)) = given key most header left start taken last count here wrote in (
      headed,
      plain,
      opens,
      long,
      ap₂ (λ b m. closed_output name (Checked key header last) b m Finished ∷ []) (whole_is start taken bytes plain empty some grew)
          (count_is false zero failures n nil many counts),
    )

-- a part of it, whatever it was
pub begun_at : (key : List ℕ) (most : ℕ) (header last : List ℕ) (left taken taken' : Option (List ℕ)) → left ≡ Some last
    → IfSome left (WritesSome key most taken taken') → Keeps taken taken' ⊎ HasSent key header header left taken taken'
    → IsBegun key most header last taken taken'
begun_at key most header last left taken taken' here wrote (inl keeps) =
    (subst (λ o. IfSome o (WritesSome key most taken taken')) here wrote, inl keeps)
begun_at key most header last left taken taken' here wrote (inr sent) = (
  subst (λ o. IfSome o (WritesSome key most taken taken')) here wrote,
  inr (inl (subst (λ o. HasSent key header header o taken taken') here sent)),
)

-- of an output that was empty
begun_empty : (key : List ℕ) (most : ℕ) (header last : List ℕ) (start taken : Option (List ℕ)) (bytes : List ℕ) → start ≡ Some []
    → taken ≡ Some bytes → IsBegun key most header last start taken → IsBegun key most header last (Some []) (Some bytes)
begun_empty key most header last start taken bytes empty some begun =
    subst (λ o. IsBegun key most header last (Some []) o) some (subst (λ o. IsBegun key most header last o taken) empty begun)

-- all of it, though the output's end was refused
pub again_unfinished : (name key : List ℕ) (most : ℕ) (header : List ℕ) (left start taken : Option (List ℕ)) (last : List ℕ) (count : ℕ)
    (stopped : Stopped) (zero failures : Option ℕ) → left ≡ Some last → HasWritten key most header left start taken count
    → broken_by_write (Err stopped) ≡ true → IsAgainFault key header most (Some last) stopped → failures ≡ counted true zero
    → (bytes : List ℕ) (n : ℕ) → start ≡ Some [] → zero ≡ Some 0 → taken ≡ Some bytes → failures ≡ Some n
    → (written : List ℕ) × IsBegun key most header last (Some []) (Some written) × IsAgainFault key header most (Some last) stopped
    × (closed_output name (Checked key header last) bytes n GivenUp ∷ [] ≡ closed_output name (Checked key header last) written (once_if (broken_by_write (Err stopped))) GivenUp ∷ [])
again_unfinished name key most header left start taken last count stopped zero failures here wrote failed stop counts bytes n empty nil some many =
    let (headed, (plain, opens, grew, long)) = given key most header left start taken last count here wrote in
    let front : AppendsFront start taken plain = all_front start taken plain grew in (
      bytes,
      begun_empty key most header last start taken bytes empty some
          ((λ other is. let same : plain ≡ other = cc in subst (AppendsFront start taken) same front), inr (inr (headed, (plain, opens, front)))),
      stop,
      ap (λ m. closed_output name (Checked key header last) bytes m GivenUp ∷ [])
          (count_is true zero failures n nil many counts ∙ sym (ap (λ b. if b then 1 else 0) failed)),
    )

-- why it stopped
pub stop_of : (key : List ℕ) (most : ℕ) (header : List ℕ) (left : Option (List ℕ)) (stopped : Stopped)
    → (stopped ≡ Changed → IfSome left (λ input. (plain : List ℕ) → HasHeader header input → opening key most input ≡ Ok plain → ⊥))
    → ((fault : OpenFault) → stopped ≡ Refused fault → ⊥) → ((fault : OpenFault) → stopped ≡ Broken fault → IsOfBytes fault → ⊥)
    → IsAgainFault key header most left stopped
stop_of key most header left (Refused fault) changed before broken = before fault refl
stop_of key most header left Changed changed before broken = changed refl
stop_of key most header left (Broken fault) changed before broken = broken fault refl

-- what was written until it stopped
pub again_part : (name key : List ℕ) (most : ℕ) (header : List ℕ) (left start taken : Option (List ℕ)) (last : List ℕ) (stopped : Stopped)
    (zero failures : Option ℕ) → left ≡ Some last → IfSome left (WritesSome key most start taken)
    → Keeps start taken ⊎ HasSent key header header left start taken → IsAgainFault key header most left stopped
    → failures ≡ counted (broken_by_write (Err stopped)) zero
    → (bytes : List ℕ) (n : ℕ) → start ≡ Some [] → zero ≡ Some 0 → taken ≡ Some bytes → failures ≡ Some n
    → (written : List ℕ) × IsBegun key most header last (Some []) (Some written) × IsAgainFault key header most (Some last) stopped
    × (closed_output name (Checked key header last) bytes n GivenUp ∷ [] ≡ closed_output name (Checked key header last) written (once_if (broken_by_write (Err stopped))) GivenUp ∷ [])
again_part name key most header left start taken last stopped zero failures here wrote how stop counts bytes n empty nil some many = (
  bytes,
  begun_empty key most header last start taken bytes empty some (begun_at key most header last left start taken here wrote how),
  subst (λ o. IsAgainFault key header most o stopped) here stop,
  ap (λ m. closed_output name (Checked key header last) bytes m GivenUp ∷ []) (count_is (broken_by_write (Err stopped)) zero failures n nil many counts),
)

-- ---- idle

-- what came leaves nothing in hand
pub idle_grows : (kind : List Entry → Type 0) (before after : Option RunRecord) → Grows kind before after → IsIdle before → IsIdle after
idle_grows kind before None grew idle = tt
idle_grows kind None (Some after) grew idle = absurd grew
idle_grows kind (Some before) (Some after) (new, of, is) idle = ap (λ (r : RunRecord). r.in_hand) is ∙ idle

-- ---- what a line says

-- an output that was refused is no failed read
pub refusal_read : (fault : FolderFault) → reading_failed (Failed (fault_of_fill (Uncreated fault))) ≡ false
refusal_read folder_fault.Exists = refl
refusal_read folder_fault.Failed = refl

-- a second reading says that a read failed where one did
pub again_read : (stopped : Stopped) → ((fault : OpenFault) → stopped ≡ Refused fault → ⊥)
    → broken_by_read (Err stopped) ≡ reading_failed (Failed (fault_of_fill (Unfilled stopped)))
again_read (Refused fault) second = absurd (second fault refl)
again_read Changed second = refl
again_read (Broken fault) second = by fault
  where
    by : (fault : OpenFault) → broken_by_read (Err (Broken fault)) ≡ reading_failed (Failed (fault_of_fill (Unfilled (Broken fault))))
    by bytes.Read = refl
    by _ = refl

-- and that a write failed where one did
pub lost_by : (key header : List ℕ) (most : ℕ) (left : Option (List ℕ)) (stopped : Stopped) → IsAgainFault key header most left stopped
    → broken_by_write (Err stopped) ≡ file_write_failed (Failed (fault_of_stop stopped))
lost_by key header most left (Refused fault) why = absurd why
lost_by key header most left (Broken bytes.Write) why = refl
lost_by key header most left _ why = refl

-- a reading has no fault of a spool
pub read_by_verifying : {A : Type 0} (result : Result A FileFault) (f : FileFault) → result ≡ Err f → IsOfVerifying true (Failed f)
    → file_read_failed result ≡ reading_failed (Failed f)
read_by_verifying {A} result f is of = ap (λ r. file_read_failed r) is ∙ by f of
  where
    by : (f : FileFault) → IsOfVerifying true (Failed f) → file_read_failed {A = A} (Err f) ≡ reading_failed (Failed f)
    by SpoolFailed of = absurd of
    by (Unopened bytes.Read) of = refl
    by _ of = refl

pub read_by_opening : {A : Type 0} (to : Option (List ℕ)) (name : List ℕ) (result : Result A FileFault) (f : FileFault) → result ≡ Err f
    → IsOfOpening to name (Failed f) → file_read_failed result ≡ reading_failed (Failed f)
read_by_opening {A} to name result f is of = ap (λ r. file_read_failed r) is ∙ by f of
  where
    by : (f : FileFault) → IsOfOpening to name (Failed f) → file_read_failed {A = A} (Err f) ≡ reading_failed (Failed f)
    by SpoolFailed of = absurd of
    by (Unopened bytes.Read) of = refl
    by _ of = refl
