-- An output that is created, filled with a container and closed: what it may hold, and what comes for it.
use Rattle.std.proofs.Common.{◌≡◌, ◌≢◌, ◌∙◌, ◌<◌, ◌≤◌, ℕ, true, false, List, [], ◌∷◌, ◌++◌, length, Option, None, Some, refl, sym, ap, ap₂, subst, arith, get_or, set}
use Rattle.std.specs.Prelude.{IfSome, Result, Ok, Err, option_map, slice_get}
use Rattle.std.proofs.lemmas.Option.{slice_get-get_or}
use Rattle.container_core.specs.Container.{container}
use Rattle.container_core.specs.Shape.{IsShape, ShapeView}
use Rattle.container_core.specs.Faults.{is_failed_write}
use Rattle.container_core.specs.declared.fault.SealFault.{SealFault}
use Rattle.container_core.specs.declared.fault.SealFault.TheVariants as fault_of
use Rattle.io_core.specs.Streams.{Appends, IsFront, Keeps, counted}
use Rattle.journal_core.specs.declared.entry.Entry as journal
use Rattle.journal_core.specs.declared.entry.Event.TheVariants.{Granted}
use Rattle.journal_core.specs.declared.entry.Way.TheVariants as ended
use Rattle.journal_core.specs.Range.{prefix_of}
use Rattle.ledger_core.specs.declared.fault.IssueFault.{IssueFault}
use Rattle.ledger_core.specs.declared.fault.IssueFault.TheVariants as issue_fault
use Rattle.ledger_core.specs.Closing.{AreAllSeats}
use Rattle.ledger_core.specs.Shared.{Extends, GrantView, Holds, IsSameSeat, Knows, LedgerView, SeatView, spent_as}
use Rattle.output_core.specs.Bounds.{Admits}
use Rattle.io_core.specs.Views.{io_view}
use Rattle.sealing_core.specs.Engine.{BeginsContainer, HasReadPlain, HasWrittenRounds}
use Rattle.folder_core.specs.declared.fault.FolderFault.{FolderFault}
use Rattle.folder_core.specs.declared.fault.FolderFault.TheVariants as folder_fault
use Rattle.folder_core.specs.Record.{Container, Created, Entry, Finished, GivenUp, Happened, Nothing, Refused, RunRecord, State, bound_in}
use Rattle.folder_core.specs.Changes.{Becomes, Closes, IsFresh, IsIdle, IsNew, MayHold, allowed, change, closed_at, new_output, set_closed, with_entry}
use Rattle.folder_core.specs.Growth.{Grows, with_entries}
use Rattle.folder_core.proofs.Entries.{get_end}
use Rattle.folder_core.proofs.Growth.{grows_by}
use Rattle.command_core.specs.declared.line.FileFault.{FileFault}
use Rattle.command_core.specs.declared.line.FileFault.TheVariants.{Unsealed}
use Rattle.command_core.specs.declared.line.FileOutcome.{FileOutcome}
use Rattle.command_core.specs.declared.line.FileOutcome.TheVariants.{Failed, Sealed}
use Rattle.command_core.specs.Putting.{closed_output}
use Rattle.command_core.proofs.Files.{known_at}
use Rattle.command_core.proofs.Puts.{all_front, count_is, put_closed}
use Rattle.sealer_core.specs.Group.{ClosesBy, IsEnding, IsKeyed, IsKnownLeft, IsLonger, OutputEndsBy, PutsLeft, filled, uncreated_as, void_at}
use Rattle.sealer_core.specs.Sealing.{IsWhyGivenUp, PutsSealed, SealedUnder, container_by, operations_of, unissued_as}
use Rattle.sealer_core.proofs.FileEnds.{change_after}
use Rattle.sealer_core.proofs.Keyed.{admits_container, idle_keyed, inside_range, keyed_after, keyed_filled, keyed_more, may_hold}
use Rattle.sealer_core.proofs.Owing.{issue_settles, one_unsettled, some_one}
use Rattle.sealer_core.proofs.Waits.{held_is}

-- ---- before it is in hand

pub new_at : (place : ℕ) (name : List ℕ) (before created : Option RunRecord) → IsIdle before → IfSome before (λ r. place ≡ length r.entries)
    → Becomes (with_entry (Created (new_output name))) before created → IfSome created (IsNew place)
new_at place name before None idle at new = tt
new_at place name before (Some r) idle at (was, known, is) = subst (IsNew place) (sym is) (record {
  name = name;
  idle = subst (λ o. IfSome o (λ r. r.in_hand ≡ None)) known idle;
  there = ap (slice_get (was.entries ++ Created (new_output name) ∷ [])) (subst (λ o. IfSome o (λ r. place ≡ length r.entries)) known at)
      ∙ get_end was.entries (Created (new_output name));
})

-- Its number was granted to the one seat just now. So it is free.
module _ (key : List ℕ) (shape : ShapeView) (ledger : LedgerView) (seats : List SeatView) (d seat : SeatView) (grant : GrantView) (name : List ℕ) (place : ℕ)
    (before created : Option RunRecord) (one : length seats ≡ 1) (all : AreAllSeats ledger seats) (same : IsSameSeat (get_or seats 0 d) seat) (knows : Knows seat)
    (held : Holds seat (spent_as grant ended.Void)) (more : Extends (get_or seats 0 d) (Granted grant.number) seat)
    (keyed : IfSome before (IsKeyed key ledger.terms.range (operations_of seats))) (at : IfSome before (λ r. place ≡ length r.entries))
    (new : Becomes (with_entry (Created (new_output name))) before created)
  where
    new_first : IfSome created (IsNew place)
    new_first = new_at place name before created (idle_keyed key ledger.terms.range (operations_of seats) before keyed) at new

    keyed_first : IfSome created (IsKeyed key ledger.terms.range (operations_of (set seats 0 seat)))
    keyed_first =
        keyed_after key ledger.terms.range (operations_of (set seats 0 seat)) (Created (new_output name)) before created (λ n. refl)
        (keyed_more key ledger.terms.range (operations_of seats) (operations_of (set seats 0 seat)) before
        (λ n. let is = issue_settles seats d seat grant.number n (some_one (length seats) one) more in omega arith) keyed) new

    pub may_first : IsShape shape → IfSome created (MayHold place (Container grant.number shape))
    may_first lawful =
        let was = all.each 0 (get_or seats 0 d) (slice_get-get_or seats 0 d (some_one (length seats) one)) in
        may_hold key ledger.terms.range shape grant.number place (operations_of (set seats 0 seat)) created lawful
        (inside_range ledger seat grant.number (same.terms ∙ was.1) knows (let settled = held.2 in let granted = held.1 in omega arith))
        (one_unsettled seats seat grant.number one held.2) new_first keyed_first

    pub admits_first : (ready : Option RunRecord) (taken : Option (List ℕ)) (failures : Option ℕ) → Becomes (allowed place (Container grant.number shape)) created ready
        → IsFresh ready taken failures → (plain : List ℕ)
        → Admits (option_map bound_in ready) taken (container key shape (prefix_of ledger.terms.range.device grant.number) plain)
    admits_first ready taken failures may fresh =
        admits_container key ledger.terms.range shape grant.number place (operations_of (set seats 0 seat)) ledger.terms.range.device created ready taken failures
        refl new_first keyed_first may fresh

    -- it was filled, and the number was settled
    pub keyed_ended : (state : State) (bytes : List ℕ) (n : ℕ) (operations' : List journal.Entry) (outcome : FileOutcome) (r : RunRecord)
        → IsEnding grant.number (operations_of (set seats 0 seat)) operations' outcome
        → Becomes (filled place (Container grant.number shape) state bytes n) created (Some r) → IsKeyed key ledger.terms.range operations' r
    keyed_ended state bytes n operations' outcome r =
        keyed_filled key ledger.terms.range place grant.number n shape state bytes (operations_of (set seats 0 seat)) operations' outcome created r new_first keyed_first

-- it was refused
pub refused_put : (u : SealedUnder) (output : List ℕ) (left : Option (List ℕ)) (fault : FolderFault) (before after : Option RunRecord)
    → IsKnownLeft before left → Becomes (with_entry (Happened (Refused output fault))) before after
    → Grows (PutsLeft u output left (Failed (uncreated_as fault)) []) before after
refused_put u output left fault before None known came = tt
refused_put u output left fault before (Some r) known (was, is_known, is) =
    let (input, here) = subst (λ o. IsKnownLeft o left) is_known known in
    grows_by (PutsLeft u output left (Failed (uncreated_as fault)) []) (Happened (Refused output fault))
    (input, Happened (Refused output fault), here, by_fault fault input, refl, refl) before (Some r) (was, is_known, is)
  where
    by_fault : (fault : FolderFault) (input : List ℕ)
        → PutsSealed u output input (Failed (uncreated_as fault)) (Happened (Refused output fault))
    by_fault folder_fault.Exists input = refl
    by_fault folder_fault.Failed input = refl

-- it is given up before it was in hand

unused : (P : RunRecord → Type 0) (kind : List Entry → Type 0) (output : List ℕ) (place : ℕ) (before created after : Option RunRecord)
    → IsIdle before → IfSome before (λ r. place ≡ length r.entries) → Becomes (with_entry (Created (new_output output))) before created
    → Becomes (closed_at place GivenUp [] 0) created after → IfSome before P
    → ((was : RunRecord) → P was → IfSome created (λ _. kind (closed_output output Nothing [] 0 GivenUp ∷ [])))
    → Grows kind before after
unused P kind output place before created None idle at new ends p makes = tt
unused P kind output place before created (Some r) idle at new (second, second_is, last) p makes =
    let (first, first_is, begun) = subst (Becomes (with_entry (Created (new_output output))) before) second_is new in
    let empty : first.in_hand ≡ None = subst (λ o. IfSome o (λ r. r.in_hand ≡ None)) first_is idle in
    let there : place ≡ length first.entries = subst (λ o. IfSome o (λ r. place ≡ length r.entries)) first_is at in
    let entry : Entry = closed_output output Nothing [] 0 GivenUp in
    let all : r ≡ with_entries (entry ∷ []) first =
    last ∙ ap (closed_at place GivenUp [] 0) begun
    ∙ ap (λ p. record first {
      entries = change p (set_closed GivenUp [] 0) (first.entries ++ Created (new_output output) ∷ []);
      in_hand = None;
    }) there
    ∙ ap (λ l. record first { entries = l; in_hand = None }) (change_after first.entries (Created (new_output output) ∷ []) (length first.entries) 0 (set_closed GivenUp [] 0) (omega arith))
    ∙ ap (λ h. record first { entries = first.entries ++ entry ∷ []; in_hand = h }) (sym empty) in
    subst (λ o. Grows kind o (Some r)) (sym first_is) (
      entry ∷ [],
      subst (λ o. IfSome o (λ _. kind (entry ∷ []))) second_is (makes first (subst (λ o. IfSome o P) first_is p)),
      all,
    )

-- its input was too long when it was opened
pub given_up_long : (u : SealedUnder) (output : List ℕ) (left : Option (List ℕ)) (place : ℕ) (before created after : Option RunRecord)
    → IsIdle before → IfSome before (λ r. place ≡ length r.entries) → Becomes (with_entry (Created (new_output output))) before created
    → Becomes (closed_at place GivenUp [] 0) created after → IsKnownLeft before left → IsLonger u.most created left
    → Grows (PutsLeft u output left (Failed (Unsealed fault_of.TooLong)) []) before after
given_up_long u output left place before created after idle at new ends known long =
    unused (λ _. (input : List ℕ) × (left ≡ Some input)) (PutsLeft u output left (Failed (Unsealed fault_of.TooLong)) []) output place
    before created after idle at new ends known (λ was (input, here). made created long input here)
  where
    made : (created : Option RunRecord) → IsLonger u.most created left → (input : List ℕ) → left ≡ Some input
        → IfSome created (λ _. PutsLeft u output left (Failed (Unsealed fault_of.TooLong)) [] (closed_output output Nothing [] 0 GivenUp ∷ []))
    made None long input here = tt
    made (Some r) long input here = (
      input,
      closed_output output Nothing [] 0 GivenUp,
      here,
      (Nothing, [], refl, known_at (λ i. u.most < length i) left input here long, refl),
      refl,
      refl,
    )

-- it has no number
pub given_up_unissued : (u : SealedUnder) (output : List ℕ) (left : Option (List ℕ)) (why : IssueFault) (fault : FileFault) (place : ℕ)
    (before created after : Option RunRecord) → fault ≡ unissued_as why → IsIdle before → IfSome before (λ r. place ≡ length r.entries)
    → Becomes (with_entry (Created (new_output output))) before created → Becomes (closed_at place GivenUp [] 0) created after
    → IsKnownLeft before left → Grows (PutsLeft u output left (Failed fault) []) before after
given_up_unissued u output left why fault place before created after named idle at new ends known =
    unused (λ _. (input : List ℕ) × (left ≡ Some input)) (PutsLeft u output left (Failed fault) []) output place
    before created after idle at new ends known (λ was (input, here). made created input here)
  where
    by_why : (why : IssueFault) (input : List ℕ)
        → PutsSealed u output input (Failed (unissued_as why)) (closed_output output Nothing [] 0 GivenUp)
    by_why issue_fault.Exhausted input = (Nothing, [], refl, refl, refl)
    by_why issue_fault.SeatClosed input = (Nothing, [], refl, refl, refl)
    by_why issue_fault.OutOfMemory input = (Nothing, [], refl, refl, refl)

    made : (created : Option RunRecord) (input : List ℕ) → left ≡ Some input
        → IfSome created (λ _. PutsLeft u output left (Failed fault) [] (closed_output output Nothing [] 0 GivenUp ∷ []))
    made None input here = tt
    made (Some r) input here = (
      input,
      closed_output output Nothing [] 0 GivenUp,
      here,
      subst (λ f. PutsSealed u output input (Failed f) (closed_output output Nothing [] 0 GivenUp)) (sym named) (by_why why input),
      refl,
      refl,
    )

-- ---- closed

-- it is whole
sealed_whole : (u : SealedUnder) (number : ℕ) (output : List ℕ) (left start taken : Option (List ℕ)) (zero failures : Option ℕ) (n bytes : ℕ)
    → n ≡ number → IfSome left (λ input. Appends start taken (container_by u number input)) → IfSome left (λ input. length input ≤ u.most)
    → IfSome left (λ input. bytes ≡ length input) → failures ≡ counted false zero → (input : List ℕ) × (left ≡ Some input)
    → (held : List ℕ) (m : ℕ) → start ≡ Some [] → zero ≡ Some 0 → taken ≡ Some held → failures ≡ Some m
    → PutsLeft u output left (Sealed n bytes) [] (closed_output output (Container number u.shape) held m Finished ∷ [])
sealed_whole u number output left start taken zero failures n bytes same grew within long count (input, here) held m empty nil some many = (
  input,
  closed_output output (Container number u.shape) held m Finished,
  here,
  (
    known_at (λ i. bytes ≡ length i) left input here long,
    known_at (λ i. length i ≤ u.most) left input here within,
    ap₂ (λ b k. closed_output output (Container number u.shape) b k Finished)
        (held_is start taken held (container_by u number input) empty some
        (known_at (λ i. Appends start taken (container_by u number i)) left input here grew))
        (count_is false zero failures m nil many count)
        ∙ ap (λ k. closed_output output (Container k u.shape) (container_by u k input) 0 Finished) (sym same),
  ),
  refl,
  refl,
)

-- what it holds is a prefix of the container
front_of : (u : SealedUnder) (number : ℕ) (left start taken : Option (List ℕ)) (input held : List ℕ) → left ≡ Some input
    → start ≡ Some [] → taken ≡ Some held → BeginsContainer u.key u.shape (prefix_of u.device number) left start taken
    → IsFront held (container_by u number input)
front_of u number left start taken input held here empty some (plain, of, (front, is, grew)) =
    subst (λ i. IsFront held (container_by u number i)) (sym (known_at (λ i. i ≡ plain) left input here of))
    (subst (λ b. IsFront b (container_by u number plain)) (sym (held_is start taken held front empty some grew)) is)

why_of : (u : SealedUnder) (number : ℕ) (left start taken : Option (List ℕ)) (fault : SealFault) (input held : List ℕ)
    → left ≡ Some input → start ≡ Some [] → taken ≡ Some held → (fault ≡ fault_of.TooLong → IfSome left (λ i. u.most < length i))
    → fault ≢ fault_of.TooManyChunks → (fault ≡ fault_of.OutOfMemory → Keeps start taken)
    → IsWhyGivenUp u.most (Unsealed fault) input (Container number u.shape) held
why_of u number left start taken fault_of.TooLong input held here empty some long few kept =
    known_at (λ i. u.most < length i) left input here (long refl)
why_of u number left start taken fault_of.OutOfMemory input held here empty some long few kept =
    subst (λ o. Keeps (Some []) o) some (subst (λ o. Keeps o taken) empty (kept refl))
why_of u number left start taken fault_of.Read input held here empty some long few kept = tt
why_of u number left start taken fault_of.Write input held here empty some long few kept = λ is. cc
why_of u number left start taken fault_of.TooManyChunks input held here empty some long few kept = absurd (few refl)

-- it is given up
sealed_part : (u : SealedUnder) (number : ℕ) (output : List ℕ) (left start taken : Option (List ℕ)) (zero failures : Option ℕ)
    (fault : SealFault) → BeginsContainer u.key u.shape (prefix_of u.device number) left start taken
    → (fault ≡ fault_of.TooLong → IfSome left (λ i. u.most < length i)) → fault ≢ fault_of.TooManyChunks
    → (fault ≡ fault_of.OutOfMemory → Keeps start taken) → failures ≡ counted (is_failed_write fault) zero
    → (input : List ℕ) × (left ≡ Some input)
    → (held : List ℕ) (m : ℕ) → start ≡ Some [] → zero ≡ Some 0 → taken ≡ Some held → failures ≡ Some m
    → PutsLeft u output left (Failed (Unsealed fault)) (number ∷ []) (closed_output output (Container number u.shape) held m GivenUp ∷ [])
sealed_part u number output left start taken zero failures fault begun long few kept count (input, here) held m empty nil some many = (
  input,
  closed_output output (Container number u.shape) held m GivenUp,
  here,
  (
    Container number u.shape,
    held,
    (refl, front_of u number left start taken input held here empty some begun),
    why_of u number left start taken fault input held here empty some long few kept,
    ap (λ k. closed_output output (Container number u.shape) held k GivenUp)
        (count_is (is_failed_write fault) zero failures m nil many count),
  ),
  refl,
  refl,
)

-- it was whole, and its end was refused
sealed_unended : (u : SealedUnder) (number : ℕ) (output : List ℕ) (left start taken : Option (List ℕ)) (zero failures : Option ℕ)
    → IfSome left (λ input. Appends start taken (container_by u number input)) → failures ≡ counted true zero
    → (input : List ℕ) × (left ≡ Some input)
    → (held : List ℕ) (m : ℕ) → start ≡ Some [] → zero ≡ Some 0 → taken ≡ Some held → failures ≡ Some m
    → PutsLeft u output left (Failed (Unsealed fault_of.Write)) (number ∷ []) (closed_output output (Container number u.shape) held m GivenUp ∷ [])
sealed_unended u number output left start taken zero failures grew count (input, here) =
    sealed_part u number output left start taken zero failures fault_of.Write (
      input,
      subst (λ o. IfSome o (λ i. i ≡ input)) (sym here) refl,
      all_front start taken (container_by u number input)
          (known_at (λ i. Appends start taken (container_by u number i)) left input here grew),
    )
    (λ is. absurd (cc)) (λ is. cc) (λ is. absurd (cc)) count (input, here)

-- by how the sealing ended
module _ (u : SealedUnder) (number : ℕ) (output : List ℕ) (window place : ℕ) (left left' start taken : Option (List ℕ))
    (zero failures reads reads' : Option ℕ) (before created ready filled after : Option RunRecord) (known : IsKnownLeft before left)
    (idle : IsIdle before) (at : IfSome before (λ r. place ≡ length r.entries))
    (new : Becomes (with_entry (Created (new_output output))) before created)
    (may : Becomes (allowed place (Container number u.shape)) created ready) (fresh : IsFresh ready start zero) (same : filled ≡ ready)
  where
    closed_as : (outcome : FileOutcome) (state : State) (failures : Option ℕ) → Closes state filled taken failures after
        → ((input : List ℕ) × (left ≡ Some input) → (held : List ℕ) (m : ℕ) → start ≡ Some [] → zero ≡ Some 0 → taken ≡ Some held
        → failures ≡ Some m → PutsLeft u output left outcome (void_at number outcome) (closed_output output (Container number u.shape) held m state ∷ []))
        → Grows (PutsLeft u output left outcome (void_at number outcome)) before after
    closed_as outcome state failures closes makes =
        put_closed (λ _. (input : List ℕ) × (left ≡ Some input)) (PutsLeft u output left outcome (void_at number outcome)) output (Container number u.shape)
        state place start taken zero failures before created ready filled after idle at new may fresh same closes known (λ was. makes)

    ends_at : (sealed : Result ℕ SealFault) (outcome : FileOutcome) → HasReadPlain u.most left left' reads reads' sealed
        → HasWrittenRounds u.key u.shape (prefix_of u.device number) u.most window (io_view left reads start zero) (io_view left' reads' taken failures) sealed
        → sealed ≢ Err fault_of.TooManyChunks → OutputEndsBy sealed number outcome → ClosesBy sealed outcome filled taken failures after
        → Grows (PutsLeft u output left outcome (void_at number outcome)) before after
    ends_at (Ok bytes) (Sealed n long) read wrote few (same, count) closes =
        closed_as (Sealed n long) Finished failures closes
        (sealed_whole u number output left start taken zero failures n long same wrote.written wrote.within
        (subst (λ n. IfSome left (λ i. n ≡ length i)) (sym count) wrote.length) wrote.write)
    ends_at (Ok bytes) outcome read wrote few end closes =
        subst (λ o. Grows (PutsLeft u output left o (void_at number o)) before after) (sym end)
        (closed_as (Failed (Unsealed fault_of.Write)) GivenUp (counted true failures) closes
        (sealed_unended u number output left start taken zero (counted true failures) wrote.written (ap (counted true) wrote.write)))
    ends_at (Err fault) (Sealed n long) read wrote few end closes = absurd (cc)
    ends_at (Err fault) outcome read wrote few end closes =
        subst (λ o. Grows (PutsLeft u output left o (void_at number o)) before after) (sym end)
        (closed_as (Failed (Unsealed fault)) GivenUp failures closes
        (sealed_part u number output left start taken zero failures fault wrote.begun (λ is. read.more (ap Err is)) (λ is. few (ap Err is))
        (λ is. wrote.unwritten (ap Err is)) wrote.write))

    pub sealed_ends : (device spent : ℕ) (sealed : Result ℕ SealFault) (outcome : FileOutcome) → device ≡ u.device → spent ≡ number
        → HasReadPlain u.most left left' reads reads' sealed
        → HasWrittenRounds u.key u.shape (prefix_of device number) u.most window (io_view left reads start zero) (io_view left' reads' taken failures) sealed
        → sealed ≢ Err fault_of.TooManyChunks → OutputEndsBy sealed spent outcome → ClosesBy sealed outcome filled taken failures after
        → Grows (PutsLeft u output left outcome (void_at number outcome)) before after
    sealed_ends device spent sealed outcome of is read wrote few end closes =
        ends_at sealed outcome read
        (subst (λ d. HasWrittenRounds u.key u.shape (prefix_of d number) u.most window (io_view left reads start zero) (io_view left' reads' taken failures) sealed) of wrote)
        few (subst (λ n. OutputEndsBy sealed n outcome) is end) closes
