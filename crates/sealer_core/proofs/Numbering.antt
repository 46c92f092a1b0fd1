-- The lines and the ledger's operations agree file by file. The ledger is legal, so no number is in two lines.
use Rattle.std.proofs.Common.{Result, Ok, Err, IsOk, IfOk, OnOk, OnErr, true, false, add-zero, ◌≡◌, ◌⊎◌, ℕ, zero, suc, ◌+◌, ◌<◌, ◌≤◌, Bool, cond, nat_eq, List, [], ◌∷◌, ◌++◌, length, count_by, refl, sym, ap, ◌∙◌, subst, inl, inr, arith, eq-eqb, ne_eqb, take, append-nil, Option}
use mathlib.Core.Logic.{dite}
use native.Mathlib.Decide.{ℕ_discrete}
use Rattle.std.specs.Prelude.{Some, slice_get}
use Rattle.std.proofs.Math.Seq.{take-append_seam}
use Rattle.std.proofs.lemmas.List.Sums.{sum_by_push, sum_by-cons, sum_by-append}
use Rattle.journal_core.specs.declared.entry.Event.{Event}
use Rattle.journal_core.specs.declared.entry.Event.TheVariants.{Granted, Exhausted, Settled}
use Rattle.journal_core.specs.declared.entry.Entry.{Entry}
use Rattle.journal_core.specs.declared.entry.Way.{Way}
use Rattle.journal_core.specs.declared.entry.Way.TheVariants as ended
use Rattle.journal_core.specs.declared.terms.Terms.{Terms}
use Rattle.journal_core.specs.History.{Legal, entry, is_granted, is_sealed, is_void, granted, grants, times_granted, times_settled, calls_of}
use Rattle.journal_core.proofs.Histories.{MayReply, reply_of, count_push, count_calls, induct, legal_front}
use Rattle.journal_core.proofs.Bounds.{within, sum_below, sum_below_more}
use Rattle.journal_core.proofs.Owners.{count_calls_le, in_range}
use Rattle.container_core.specs.declared.fault.SealFault.{SealFault}
use Rattle.ledger_core.specs.declared.fault.IssueFault.{IssueFault}
use Rattle.ledger_core.specs.declared.fault.IssueFault.TheVariants.{SeatClosed, OutOfMemory as NotIssued, Exhausted as NoNumber}
use Rattle.std.proofs.lemmas.Grind.{flat_map-append}
use Rattle.ledger_core.specs.Shared.{LedgerId, LedgerView, SeatView, SpentView, GrantView, Extends, Holds, Knows, Unissued, fresh_seat, fresh_seats}
use Rattle.ledger_core.specs.Closing.{AreAllSeats, IsWhole}
use Rattle.crew_core.specs.Spending.{spent_as}
use Rattle.command_core.specs.declared.line.FileOutcome.TheVariants.{Sealed}
use Rattle.command_core.specs.Lines.{FileLine}
use Rattle.command_core.specs.Turns.{Printed}
use Rattle.folder_core.specs.Record.{RunRecord}
use Rattle.sealer_core.specs.Sealing.{Accounts, AreNumbered, AreSealed, HasSealed, IsSettled, SealedUnder, line_of, operations_of, seals, spoils, tells_of, times_in, times_told}

pub told_push : (n : ℕ) (lines : List FileLine) (line : FileLine) → times_told n (lines ++ line ∷ []) ≡ times_told n lines + cond (tells_of n line.outcome) 1 0
told_push n lines line = sum_by_push (λ (x : FileLine). cond (tells_of n x.outcome) 1 0) lines line

pub in_append : (n : ℕ) (one two : List ℕ) → times_in n (one ++ two) ≡ times_in n one + times_in n two
in_append n one two = sum_by-append (λ (m : ℕ). cond (nat_eq n m) 1 0) one two

pub in_push : (n : ℕ) (voids : List ℕ) (k : ℕ) → times_in n (voids ++ k ∷ []) ≡ times_in n voids + cond (nat_eq n k) 1 0
in_push n voids k = sum_by_push (λ (m : ℕ). cond (nat_eq n m) 1 0) voids k

pub accounts_none : Accounts [] [] []
accounts_none = record { told = λ n. omega arith; voided = λ n. omega arith; granted = λ n. omega arith }

-- ---- what a seat did

pub mine_of : (old new : SeatView) (event : Event) → Extends old event new → new.mine ≡ old.mine ++ entry old.number event ∷ []
mine_of old new event (between, is) = ap (λ (v : SeatView). v.mine) is

-- an issue that gave no number
pub not_granted : (fault : IssueFault) (old new : SeatView) → Unissued fault old new → (new ≡ old) ⊎ Extends old Exhausted new
not_granted SeatClosed old new h = inl h.1
not_granted NotIssued old new h = inl h.1
not_granted NoNumber old new h = inr h.1

-- ---- a number that is held is settled

pub settled_now : {A F P : Type 0} (result : Result A F) → IsOk result → IfOk result (λ _. P) → P
settled_now (Ok a) is so = so
settled_now (Err e) is so = absurd (cc)

-- what a sealing gave back is held where its grant was
pub spent_held : (seat : SeatView) (result : Result ℕ SealFault) (grant : GrantView) (spent : SpentView)
    → OnOk result (spent ≡ spent_as grant ended.Sealed) → OnErr result (spent ≡ spent_as grant ended.Void)
    → ((way : Way) → Holds seat (spent_as grant way)) → Holds seat spent
spent_held seat (Ok bytes) grant spent sealed void held = subst (Holds seat) (sym sealed) (held ended.Sealed)
spent_held seat (Err fault) grant spent sealed void held = subst (Holds seat) (sym void) (held ended.Void)

-- and is of its device and number
pub spent_number : (result : Result ℕ SealFault) (grant : GrantView) (spent : SpentView)
    → OnOk result (spent ≡ spent_as grant ended.Sealed) → OnErr result (spent ≡ spent_as grant ended.Void) → (spent.device ≡ grant.device) × (spent.number ≡ grant.number)
spent_number (Ok bytes) grant spent sealed void = (ap (λ (s : SpentView). s.device) sealed, ap (λ (s : SpentView). s.number) sealed)
spent_number (Err fault) grant spent sealed void = (ap (λ (s : SpentView). s.device) void, ap (λ (s : SpentView). s.number) void)

-- ---- the whole history has what the seats have

pub sum_below_first : (n : ℕ) (f : ℕ → ℕ) → sum_below (suc n) f ≡ f 0 + sum_below n (λ i. f (suc i))
sum_below_first zero f = refl
sum_below_first (suc n) f = let h = sum_below_first n f in omega arith

pub sum_below_zeros : (n : ℕ) → sum_below n (λ _. 0) ≡ 0
sum_below_zeros zero = refl
sum_below_zeros (suc n) = let h = sum_below_zeros n in omega arith

seats_sum : (p : Entry → Bool) (seats : List SeatView) (f : ℕ → ℕ) → ((i : ℕ) (v : SeatView) → slice_get seats i ≡ Some v → count_by p v.mine ≡ f i)
    → count_by p (operations_of seats) ≡ sum_below (length seats) f
seats_sum p [] f each = refl
seats_sum p (v ∷ seats) f each =
    let here = each 0 v refl in
    let rest = seats_sum p seats (λ i. f (suc i)) (λ i w at. each (suc i) w at) in
    let joined = sum_by-append (λ (x : Entry). cond (p x) 1 0) v.mine (operations_of seats) in
    let first = sum_below_first (length seats) f in
    omega arith

counted_by_seats : (p : Entry → Bool) (terms : Terms) (history : List Entry) → Legal terms history
    → count_by p history ≡ sum_below terms.seats (λ t. count_by p (calls_of t history))
counted_by_seats p terms history legal = induct terms (λ (h : List Entry). count_by p h ≡ sum_below terms.seats (λ t. count_by p (calls_of t h)))
    (sym (sum_below_zeros terms.seats))
    (λ h e may so.
    let more = sum_below_more terms.seats e.seat (cond (p e) 1 0) (λ t. count_by p (calls_of t h)) (λ t. count_by p (calls_of t (h ++ e ∷ []))) may.seat (λ t. count_calls p t h e) in
    let push = count_push p h e in omega arith)
    history legal

pub same_count : (p : Entry → Bool) (terms : Terms) (ledger : LedgerView) (seats : List SeatView) (history : List Entry)
    → AreAllSeats ledger seats → terms ≡ ledger.terms → IsWhole terms seats history → count_by p history ≡ count_by p (operations_of seats)
same_count p terms ledger seats history all is whole =
    let ours = counted_by_seats p terms history whole.legal in
    let theirs = seats_sum p seats (λ t. count_by p (calls_of t history))
    (λ i v at. sym (ap (count_by p) (ap (λ (t : ℕ). calls_of t history) (sym (all.each i v at).2) ∙ (whole.each i v at).own))) in
    let count : length seats ≡ terms.seats = all.count ∙ ap (λ (t : Terms). t.seats) (sym is) in
    ours ∙ ap (λ (n : ℕ). sum_below n (λ t. count_by p (calls_of t history))) (sym count) ∙ sym theirs

pub accounts_whole : (lines : List FileLine) (voids : List ℕ) (ledger : LedgerView) (seats : List SeatView) (history : List Entry)
    → AreAllSeats ledger seats → IsWhole ledger.terms seats history → Accounts lines voids (operations_of seats) → Accounts lines voids history
accounts_whole lines voids ledger seats history all whole a = record {
  told = λ n. let s = same_count (seals n) ledger.terms ledger seats history all refl whole in let h = a.told n in omega arith;
  voided = λ n. let v = same_count (spoils n) ledger.terms ledger seats history all refl whole in let h = a.voided n in omega arith;
  granted = λ n.
      let v = same_count (spoils n) ledger.terms ledger seats history all refl whole in
      let g = same_count (grants n) ledger.terms ledger seats history all refl whole in
      let h = a.granted n in omega arith;
}

-- what a slice of a vector became is what the vector became
pub written_back : (n : ℕ) (new rest : List SeatView) → n ≡ length new → take n (new ++ rest) ≡ new
written_back n new rest is = ap (λ (m : ℕ). take m (new ++ rest)) is ∙ take-append_seam new rest

-- ---- no number is in two lines

abbrev pub GrantedOnce : Terms → List Entry → Type 0
GrantedOnce terms history = (n : ℕ) → (times_granted n history ≤ 1) × (0 < times_granted n history → (terms.range.lo ≤ n) × (n < terms.range.lo + granted history))

pub zero_of : (n : ℕ) → (0 < n → ⊥) → n ≡ 0
zero_of zero none = refl
zero_of (suc n) none = absurd (none (omega arith))

grow_once : (terms : Terms) (history : List Entry) (t : ℕ) (event : Event) → MayReply terms history t event → GrantedOnce terms history
    → GrantedOnce terms (history ++ entry t event ∷ [])
grow_once terms history t (Granted m) may once n =
    let all = count_push is_granted history (entry t (Granted m)) in
    let these = count_push (grants n) history (entry t (Granted m)) in
    let (few, low) = once n in
    dite (ℕ_discrete n m)
    (λ same.
    let hit : cond {A = ℕ} (nat_eq n m) 1 0 ≡ 1 = ap (λ b. cond {A = ℕ} b 1 0) (eq-eqb n m same) in
    let is : m ≡ terms.range.lo + granted history = may.0 in
    let none : times_granted n history ≡ 0 = zero_of (times_granted n history) (λ some. let (from, below) = low some in omega arith) in
    (omega arith, λ some. (omega arith, omega arith)))
    (λ other.
    let miss : cond {A = ℕ} (nat_eq n m) 1 0 ≡ 0 = ap (λ b. cond {A = ℕ} b 1 0) (ne_eqb n m other) in
    (omega arith, λ some. let (from, below) = low (omega arith) in (omega arith, omega arith)))
grow_once terms history t Exhausted may once n =
    let all = count_push is_granted history (entry t Exhausted) in
    let these = count_push (grants n) history (entry t Exhausted) in
    let (few, low) = once n in
    (omega arith, λ some. let (from, below) = low (omega arith) in (omega arith, omega arith))
grow_once terms history t (Settled k way) may once n =
    let all = count_push is_granted history (entry t (Settled k way)) in
    let these = count_push (grants n) history (entry t (Settled k way)) in
    let (few, low) = once n in
    (omega arith, λ some. let (from, below) = low (omega arith) in (omega arith, omega arith))

pub granted_once : (terms : Terms) (history : List Entry) → Legal terms history → GrantedOnce terms history
granted_once terms = induct terms (GrantedOnce terms) (λ n. (omega arith, λ some. absurd (omega arith)))
    (λ history e may so. grow_once terms history e.seat e.event (reply_of terms history e may) so)

-- a number that a seat was granted more often than it settled it is held there
pub held_by : (seat : SeatView) (spent : SpentView) (terms : Terms) → Knows seat → seat.terms ≡ terms → spent.device ≡ terms.range.device
    → times_settled spent.number seat.mine < times_granted spent.number seat.mine → Holds seat spent
held_by seat spent terms knows is device owed =
    let few = (granted_once seat.terms seat.seen knows.legal spent.number).0 in
    let fewer = count_calls_le (grants spent.number) seat.number seat.seen in
    let same = ap (times_granted spent.number) knows.own in
    (device ∙ sym (ap (λ (t : Terms). t.range.device) is), (omega arith), (omega arith))

-- ---- as many numbers are settled as were granted

swap_eq : (a b : ℕ) → nat_eq a b ≡ nat_eq b a
swap_eq a b = dite (ℕ_discrete a b)
    (λ same. eq-eqb a b same ∙ sym (eq-eqb b a (sym same)))
    (λ other. ne_eqb a b other ∙ sym (ne_eqb b a (λ is. other (sym is))))

sum_below_as : (n : ℕ) (f g : ℕ → ℕ) → ((t : ℕ) → g t ≡ f t) → sum_below n g ≡ sum_below n f
sum_below_as zero f g is = refl
sum_below_as (suc n) f g is = let here = is n in let rest = sum_below_as n f g is in omega arith

sum_below_both : (n : ℕ) (f g : ℕ → ℕ) → sum_below n (λ t. f t + g t) ≡ sum_below n f + sum_below n g
sum_below_both zero f g = refl
sum_below_both (suc n) f g = let rest = sum_below_both n f g in omega arith

-- a test of entries holds as often as its tests for each number below a limit do together
abbrev Sums : ℕ → (Entry → Bool) → (ℕ → Entry → Bool) → List Entry → Type 0
Sums limit all each history = count_by all history ≡ sum_below limit (λ n. count_by (each n) history)

sums_one : (limit m : ℕ) (all : Entry → Bool) (each : ℕ → Entry → Bool) (history : List Entry) (e : Entry) → m < limit → all e ≡ true → ((n : ℕ) → each n e ≡ nat_eq n m)
    → Sums limit all each history → Sums limit all each (history ++ e ∷ [])
sums_one limit m all each history e below is its so =
    let push = count_push all history e in
    let one : cond {A = ℕ} (all e) 1 0 ≡ 1 = ap (λ b. cond {A = ℕ} b 1 0) is in
    let more = sum_below_more limit m 1 (λ n. count_by (each n) history) (λ n. count_by (each n) (history ++ e ∷ [])) below
    (λ n. count_push (each n) history e ∙ ap (λ b. count_by (each n) history + cond {A = ℕ} b 1 0) (its n ∙ swap_eq n m)) in
    omega arith

sums_none : (limit : ℕ) (all : Entry → Bool) (each : ℕ → Entry → Bool) (history : List Entry) (e : Entry) → all e ≡ false → ((n : ℕ) → each n e ≡ false)
    → Sums limit all each history → Sums limit all each (history ++ e ∷ [])
sums_none limit all each history e is its so =
    let push = count_push all history e in
    let none : cond {A = ℕ} (all e) 1 0 ≡ 0 = ap (λ b. cond {A = ℕ} b 1 0) is in
    let same = sum_below_as limit (λ n. count_by (each n) history) (λ n. count_by (each n) (history ++ e ∷ []))
    (λ n. count_push (each n) history e ∙ ap (λ b. count_by (each n) history + cond {A = ℕ} b 1 0) (its n) ∙ add-zero (count_by (each n) history)) in
    omega arith

abbrev Summed : ℕ → List Entry → Type 0
Summed limit history = Sums limit is_granted grants history × Sums limit is_sealed seals history × Sums limit is_void spoils history

summed_more : (terms : Terms) (history : List Entry) (t : ℕ) (event : Event) → MayReply terms history t event → Legal terms history
    → Summed (terms.range.lo + terms.range.size) history → Summed (terms.range.lo + terms.range.size) (history ++ entry t event ∷ [])
summed_more terms history t (Granted m) may legal (g, s, v) = let L = terms.range.lo + terms.range.size in let e : Entry = entry t (Granted m) in
    let is = may.0 in let few = may.1 in (
      sums_one L m is_granted grants history e (omega arith) refl (λ n. refl) g,
      sums_none L is_sealed seals history e refl (λ n. refl) s,
      sums_none L is_void spoils history e refl (λ n. refl) v,
    )
summed_more terms history t Exhausted may legal (g, s, v) = let L = terms.range.lo + terms.range.size in let e : Entry = entry t Exhausted in (
  sums_none L is_granted grants history e refl (λ n. refl) g,
  sums_none L is_sealed seals history e refl (λ n. refl) s,
  sums_none L is_void spoils history e refl (λ n. refl) v,
)
summed_more terms history t (Settled m ended.Sealed) may legal (g, s, v) = let L = terms.range.lo + terms.range.size in let e : Entry = entry t (Settled m ended.Sealed) in
    let below = in_range terms history legal t m may.0 in let bound = (within terms history legal).0 in let top = below.1 in (
      sums_none L is_granted grants history e refl (λ n. refl) g,
      sums_one L m is_sealed seals history e (omega arith) refl (λ n. refl) s,
      sums_none L is_void spoils history e refl (λ n. refl) v,
    )
summed_more terms history t (Settled m ended.Void) may legal (g, s, v) = let L = terms.range.lo + terms.range.size in let e : Entry = entry t (Settled m ended.Void) in
    let below = in_range terms history legal t m may.0 in let bound = (within terms history legal).0 in let top = below.1 in (
      sums_none L is_granted grants history e refl (λ n. refl) g,
      sums_none L is_sealed seals history e refl (λ n. refl) s,
      sums_one L m is_void spoils history e (omega arith) refl (λ n. refl) v,
    )

summed : (terms : Terms) (history : List Entry) → Legal terms history → Legal terms history → Summed (terms.range.lo + terms.range.size) history
summed terms = induct terms (λ (h : List Entry). Legal terms h → Summed (terms.range.lo + terms.range.size) h)
    (λ legal. let zeros = sum_below_zeros (terms.range.lo + terms.range.size) in (sym zeros, sym zeros, sym zeros))
    (λ history e may so legal.
    let front = legal_front terms history (e ∷ []) legal in
    summed_more terms history e.seat e.event (reply_of terms history e may) front (so front))

pub is_settled : (terms : Terms) (history : List Entry) (lines : List FileLine) (voids : List ℕ) → Legal terms history → Accounts lines voids history → IsSettled history
is_settled terms history lines voids legal a =
    let limit = terms.range.lo + terms.range.size in
    let (g, s, v) = summed terms history legal legal in
    let both = sum_below_both limit (λ n. count_by (seals n) history) (λ n. count_by (spoils n) history) in
    let same = sum_below_as limit (λ n. count_by (seals n) history + count_by (spoils n) history) (λ n. times_granted n history)
    (λ n. let told = a.told n in let all = a.granted n in omega arith) in
    g ∙ same ∙ both ∙ (λ i. sym s i + sym v i)

module _ {A : Type 0} (p : A → Bool) where
  count_cons : (x : A) (xs : List A) → count_by p (x ∷ xs) ≡ cond (p x) 1 0 + count_by p xs
  count_cons x xs = sum_by-cons (λ (y : A). cond (p y) 1 0) x xs

  counted_by : (x : A) (b : Bool) → p x ≡ b → cond {A = ℕ} (p x) 1 0 ≡ cond b 1 0
  counted_by x b is = ap (λ b. cond {A = ℕ} b 1 0) is

  some_counted : (xs : List A) (i : ℕ) (x : A) → slice_get xs i ≡ Some x → p x ≡ true → 0 < count_by p xs
  some_counted [] i x at hit = absurd (cc)
  some_counted (y ∷ xs) zero x at hit =
      let same : y ≡ x = cc in
      let all = count_cons y xs in
      let one = counted_by y true (ap p same ∙ hit) in omega arith
  some_counted (y ∷ xs) (suc i) x at hit =
      let all = count_cons y xs in
      let more = some_counted xs i x at hit in omega arith

  -- where at most one is counted, two are the same
  pub one_alone : (xs : List A) (i j : ℕ) (x y : A) → count_by p xs ≤ 1 → slice_get xs i ≡ Some x → slice_get xs j ≡ Some y
      → p x ≡ true → p y ≡ true → i ≡ j
  one_alone [] i j x y few at also hit so = absurd (cc)
  one_alone (z ∷ xs) zero zero x y few at also hit so = refl
  one_alone (z ∷ xs) zero (suc j) x y few at also hit so =
      let same : z ≡ x = cc in
      let all = count_cons z xs in
      let one = counted_by z true (ap p same ∙ hit) in
      let more = some_counted xs j y also so in absurd (omega arith)
  one_alone (z ∷ xs) (suc i) zero x y few at also hit so =
      let same : z ≡ y = cc in
      let all = count_cons z xs in
      let one = counted_by z true (ap p same ∙ so) in
      let more = some_counted xs i x at hit in absurd (omega arith)
  one_alone (z ∷ xs) (suc i) (suc j) x y few at also hit so =
      let all = count_cons z xs in
      ap suc (one_alone xs i j x y (omega arith) at also hit so)

pub are_numbered : (terms : Terms) (history : List Entry) (lines : List FileLine) (voids : List ℕ) → Legal terms history → Accounts lines voids history
    → AreNumbered terms.range lines
are_numbered terms history lines voids legal a = record {
  inside = λ i number bytes name at.
      let told : 0 < times_told number lines = some_counted (λ (l : FileLine). tells_of number l.outcome) lines i (line_of name (Sealed number bytes)) at (eq-eqb number number refl) in
      let has = a.granted number in
      let (few, low) = granted_once terms history legal number in
      let bound = (within terms history legal).0 in
      let (from, below) = low (omega arith) in
      (from, omega arith);
  once = λ i j one other bytes more name another apart at also same.
      let has = a.granted one in
      let few = (granted_once terms history legal one).0 in
      apart (one_alone (λ (l : FileLine). tells_of one l.outcome) lines i j (line_of name (Sealed one bytes)) (line_of another (Sealed other more)) (omega arith) at also
      (eq-eqb one one refl) (eq-eqb one other same));
}

-- ---- a run

pub has_sealed : (under : SealedUnder) (names : List (List ℕ)) (ledger : LedgerView) (seats : List SeatView) (history : List Entry) (status : ℕ)
    (old new : Printed) (before after : Option RunRecord) → AreAllSeats ledger seats → IsWhole ledger.terms seats history
    → AreSealed under names (operations_of seats) status old new before after
    → HasSealed under names ledger.terms history status old new before after
has_sealed under names ledger seats history status old new before after all whole s =
    let accounts = accounts_whole s.worked.lines s.voids ledger seats history all whole s.accounts in record {
      sealed = record { worked = s.worked; voids = s.voids; given_up = s.given_up; accounts = accounts };
      numbered = are_numbered ledger.terms history s.worked.lines s.voids whole.legal accounts;
      legal = whole.legal;
      settled = is_settled ledger.terms history s.worked.lines s.voids whole.legal accounts;
    }

-- ---- new seats

operations-append : (a b : List SeatView) → operations_of (a ++ b) ≡ operations_of a ++ operations_of b
operations-append a b = flat_map-append (λ (v : SeatView). v.mine) a b

pub fresh_operations : (id : LedgerId) (terms : Terms) (n : ℕ) → operations_of (fresh_seats id terms n) ≡ []
fresh_operations id terms zero = refl
fresh_operations id terms (suc n) =
    operations-append (fresh_seats id terms n) (fresh_seat id terms n ∷ []) ∙ append-nil (operations_of (fresh_seats id terms n)) ∙ fresh_operations id terms n
