-- The record of a folder in memory, unless it was forgotten.
use Rattle.std.proofs.Common.{◌≡◌, ◌∙◌, ℕ, Bool, true, false, List, [], ◌∷◌, ◌++◌, Option, None, Some, MatchOption, refl, sym, ap, subst}
use Rattle.std.specs.Prelude.{IfSome, length, slice_get}
use Rattle.folder_core.specs.Record.{Checked, Closed, Content, Created, Entry, GivenUp, RunRecord, State}
use Rattle.folder_core.specs.Changes.{Becomes, IsFresh, IsIdle, IsNewStream, IsUnstarted, MayHold, Tells, allowed, closed_at, new_output, started, stream_name, with_entry}
use Rattle.folder_core.proofs.Calls.{Keeps, becomes_kept, close_call, event_call, hold_call, idle_call}
use Rattle.folder_core.proofs.Entries.{get_end}
use Rattle.folder_core.proofs.Started.{started_sound}
use Rattle.folder_core.specs.Record.{IsSoundWith}
use Rattle.journal_core.specs.Range.{Numbers}
use Rattle.folder_tests.specs.Memory.{IsClosing, Notes, entry_of, rest_by}
use Rattle.folder_tests.specs.declared.pages.MemoryEntry.{MemoryEntry}

pub becomes_by : (f : RunRecord → RunRecord) (told told' : Bool) (r r' : RunRecord) → told' ≡ told → r' ≡ f r
    → Becomes f (rest_by told r) (rest_by told' r')
becomes_by f true true r r' same is = (r, refl, is)
becomes_by f true false r r' same is = tt
becomes_by f false false r r' same is = tt
becomes_by f false true r r' same is = absurd (cc)

pub hand_by : (told : Bool) (r : RunRecord) (place : Option ℕ) → r.in_hand ≡ place → IfSome (rest_by told r) (λ x. x.in_hand ≡ place)
hand_by true r place is = is
hand_by false r place is = tt

pub sound_by : (told : Bool) (r : RunRecord) (taken : List ℕ) → IsSoundWith (Some r) (Some taken) → Keeps (rest_by told r) taken
sound_by true r taken sound = ∣ sound ∣₁
sound_by false r taken sound = ∣ (tt, tt) ∣₁

pub tells_becomes : (entry : Option MemoryEntry) (e : Entry) (before after : Option RunRecord) → IfSome entry (λ x. entry_of x ≡ e)
    → Notes entry before after → Becomes (with_entry e) before after
tells_becomes None e before after is tells = subst (λ x. Becomes (with_entry e) before x) (sym tells) tt
tells_becomes (Some x) e before after is tells = subst (λ y. Becomes (with_entry y) before after) is tells

-- nothing was noted
pub kept_by : (rest rest' : Option RunRecord) (taken taken' : List ℕ) → rest' ≡ rest → taken' ≡ taken → Keeps rest taken
    → Keeps rest' taken'
kept_by rest rest' taken taken' same is keeps = subst (λ r. Keeps r taken') (sym same) (subst (Keeps rest) (sym is) keeps)

-- a key was given
pub started_kept : (key : List ℕ) (range : Numbers) (before after : Option RunRecord) (held taken : List ℕ)
    → IfSome before IsUnstarted → Becomes (started key range) before after → taken ≡ held → Keeps before held
    → Keeps after taken
started_kept key range before after held taken un is same keeps =
    subst (Keeps after) (sym same)
    (becomes_kept (started key range) before after held held is
    (λ r known both. started_sound r (Some held) key range (subst (λ b. IfSome b IsUnstarted) known un) both) keeps)

-- a file was closed
pub closed_kept : (name : List ℕ) (failures : Option ℕ) (entry : Option MemoryEntry) (before after : Option RunRecord)
    (taken taken' : List ℕ) → IfSome entry (IsClosing name failures) → Notes entry before after → taken' ≡ taken
    → Keeps before taken → Keeps after taken'
closed_kept name failures None before after taken taken' is tells same keeps =
    subst (λ r. Keeps r taken') (sym tells) ∣ (tt, tt) ∣₁
closed_kept name failures (Some e) before after taken taken' (n, known, is) tells same keeps =
    event_call (Closed name n) before after taken taken' (subst (λ y. Becomes (with_entry y) before after) is tells) same keeps

pub closed_tells : (name : List ℕ) (failures : Option ℕ) (entry : Option MemoryEntry) (before after : Option RunRecord)
    → IfSome entry (IsClosing name failures) → Notes entry before after → Tells (Closed name) failures before after
closed_tells name failures None before after is tells = subst (Tells (Closed name) failures before) (sym tells) tt
closed_tells name failures (Some e) before None is tells = tt
closed_tells name failures (Some e) before (Some r) (n, known, is) tells =
    (n, known, subst (λ y. Becomes (with_entry y) before (Some r)) is tells)

-- a stream was created
pub new_stream_at : (place : ℕ) (before after : Option RunRecord) → IsIdle before
    → Becomes (with_entry (Created (new_output stream_name))) before after
    → IfSome before (λ was. place ≡ length was.entries) → IfSome after (IsNewStream place)
new_stream_at place before None idle is at = tt
new_stream_at place None (Some r) idle (was, known, is) at = absurd (cc)
new_stream_at place (Some b) (Some r) idle (was, known, is) at =
    let same : was ≡ b = cc in
    let all : r ≡ with_entry (Created (new_output stream_name)) b = is ∙ ap (with_entry (Created (new_output stream_name))) same in
    subst (IsNewStream place) (sym all) (
      record {
        name = stream_name;
        idle = idle;
        there = ap (slice_get (b.entries ++ Created (new_output stream_name) ∷ [])) at
            ∙ get_end b.entries (Created (new_output stream_name));
      },
      refl,
    )

-- an output was taken in hand, which took nothing; or all is forgotten
pub hold_kept : (before after : Option RunRecord) (held taken : List ℕ) (failures : Option ℕ) (n : ℕ) (content : Content)
    → IfSome before (MayHold n content) → Becomes (allowed n content) before after → IsFresh after (Some taken) failures
    → Keeps before held → Keeps after taken
hold_kept before None held taken failures n content may is fresh keeps = ∣ (tt, tt) ∣₁
hold_kept before (Some r) held taken failures n content may is fresh keeps =
    let none : taken ≡ [] = cc in hold_call before (Some r) held taken n content may is none keeps

-- ---- what was in hand was closed, or all is forgotten

abbrev pub IsKnown : Option ℕ → Bool → Bool → Type 0
IsKnown failures told told' = MatchOption failures (told' ≡ false) (λ _. told' ≡ told)

pub becomes_or_lost : (f : RunRecord → RunRecord) (failures : Option ℕ) (told told' : Bool) (r r' : RunRecord)
    → IsKnown failures told told' → r' ≡ f r → Becomes f (rest_by told r) (rest_by told' r')
becomes_or_lost f None told told' r r' lost is = subst (λ b. Becomes f (rest_by told r) (rest_by b r')) (sym lost) tt
becomes_or_lost f (Some m) told told' r r' same is = becomes_by f told told' r r' same is

pub close_kept : (failures : Option ℕ) (told told' : Bool) (r r' : RunRecord) (held taken : List ℕ) (n : ℕ) (state : State)
    → r.in_hand ≡ Some n → IsKnown failures told told'
    → ((m : ℕ) → failures ≡ Some m → r' ≡ closed_at n state held m r) → taken ≡ []
    → Keeps (rest_by told r) held → Keeps (rest_by told' r') taken
close_kept None told told' r r' held taken n state hand lost closed none sound =
    subst (λ b. Keeps (rest_by b r') taken) (sym lost) ∣ (tt, tt) ∣₁
close_kept (Some m) told told' r r' held taken n state hand same closed none sound =
    close_call _ _ held taken n state m (hand_by told r (Some n) hand)
    (becomes_by (closed_at n state held m) told told' r r' same (closed m refl)) none sound

rest_same : (told told' : Bool) (r r' : RunRecord) → told' ≡ told → r' ≡ r → rest_by told' r' ≡ rest_by told r
rest_same told told' r r' a b = ap (λ t. rest_by t r') a ∙ ap (rest_by told) b

pub idle_kept : (failures : Option ℕ) (told told' : Bool) (r r' : RunRecord) (held taken : List ℕ) → r.in_hand ≡ None
    → IsKnown failures told told' → r' ≡ r → taken ≡ [] → Keeps (rest_by told r) held → Keeps (rest_by told' r') taken
idle_kept None told told' r r' held taken hand lost is none sound =
    subst (λ b. Keeps (rest_by b r') taken) (sym lost) ∣ (tt, tt) ∣₁
idle_kept (Some m) told told' r r' held taken hand same is none sound =
    idle_call _ _ held taken (hand_by told r None hand) (rest_same told told' r r' same is) none sound

-- nothing was in hand, and an output was given up that never was
pub given_up : (failures failures' : Option ℕ) (told told1 told2 : Bool) (r r1 r2 : RunRecord) (held : List ℕ) (n : ℕ)
    → IsKnown failures told told1 → r1 ≡ r → held ≡ [] → failures' ≡ Some 0 → IsKnown failures' told1 told2
    → ((m : ℕ) → failures' ≡ Some m → r2 ≡ closed_at n GivenUp held m r1)
    → Becomes (closed_at n GivenUp [] 0) (rest_by told r) (rest_by told2 r2)
given_up failures None told told1 told2 r r1 r2 held n known same none zero after closed = absurd (cc)
given_up failures (Some m) told told1 told2 r r1 r2 held n known same none zero after closed =
    becomes_or_lost (closed_at n GivenUp [] 0) failures told told2 r r2
    (subst (IsKnown failures told) (sym after) known)
    (closed 0 zero ∙ ap (λ l. closed_at n GivenUp l 0 r1) none ∙ ap (closed_at n GivenUp [] 0) same)

-- what a second reading gives may be opened there, as far as its chunks are checked
pub checked_may : (rest : Option RunRecord) (place : ℕ) (key header last : List ℕ)
    → IfSome rest (λ was. (left : List ℕ) × (Some last ≡ Some left) × MayHold place (Checked key header left) was)
    → IfSome rest (MayHold place (Checked key header last))
checked_may None place key header last may = tt
checked_may (Some r) place key header last (left, same, may) =
    let is : left ≡ last = cc in subst (λ l. MayHold place (Checked key header l) r) is may
