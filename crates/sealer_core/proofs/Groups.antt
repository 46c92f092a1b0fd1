-- Files sealed in a group: its numbers are granted by the batch, and settled one by one.
use Rattle.std.proofs.Common.{◌≡◌, ◌⊎◌, ℕ, suc, ◌+◌, ◌-◌, ◌<◌, ◌≤◌, Bool, true, false, cond, nat_eq, length-append, length-drop, Vec, Global, List, [], ◌∷◌, ◌++◌, length, count_by, refl, sym, ap, ◌∙◌, subst, ⊎_elim, arith, lit≤, get_or, All, Option, map, append-nil, append_assoc, Bor, take, drop}
use Rattle.std.specs.Prelude.{Some, slice_get, flat_map}
use Rattle.std.proofs.lemmas.Option.{slice_get-get_or, slice_get_within}
use Rattle.std.proofs.lemmas.List.{map-append, length-map}
use Rattle.std.proofs.lemmas.List.Elements.{All-nil, All-cons, All-push}
use Rattle.std.proofs.lemmas.Grind.{flat_map-append}
use Rattle.std.proofs.Math.Seq.{take-add}
use Rattle.std.proofs.lemmas.List.Sums.{sum_by-cons, sum_by-append}
use Rattle.journal_core.specs.declared.entry.Event.TheVariants.{Granted, Exhausted}
use Rattle.journal_core.specs.declared.entry.Entry.{Entry}
use Rattle.journal_core.specs.declared.terms.Terms.{Terms}
use Rattle.journal_core.specs.History.{entry, grants, settles, times_granted, times_settled}
use Rattle.journal_core.proofs.Bounds.{sum_below, sum_below_more}
use Rattle.ledger_core.specs.declared.fault.IssueFault.TheVariants.{SeatClosed, OutOfMemory as NoMemory, Exhausted as NoNumber}
use Rattle.ledger_core.specs.Shared.{LedgerView, SeatView}
use Rattle.ledger_core.specs.Closing.{AreAllSeats}
use Rattle.crew_core.specs.declared.outcome.Outcome.{Outcome}
use Rattle.crew_core.specs.declared.outcome.Outcome.TheVariants as job
use Rattle.container_core.specs.Shape.{ShapeView}
use Rattle.crew_core.specs.Batch.{seat_of, of_seat, issues, AreOutcomes, AreAmong, AreIssued, IsAt, IsOutcome}
use Rattle.command_core.specs.declared.line.FileFault.{FileFault}
use Rattle.command_core.specs.declared.line.FileOutcome.{FileOutcome}
use Rattle.command_core.specs.declared.line.FileOutcome.TheVariants.{Failed}
use Rattle.command_core.specs.Lines.{FileLine}
use Rattle.command_core.specs.Turns.{Printed}
use Rattle.command_core.specs.Work.{AreTold}
use Rattle.sealer_core.specs.Group.{holds, HasEnded, IsOfSeats, AreHeld, AreOwed, AreEnded, GroupView, group_view, refused_lines, name_of, IsPrepared, read_of, left_by, void_by, void_in}
use Rattle.sealer_core.specs.declared.prepare.Prepared.{Prepared}
use Rattle.sealer_core.specs.declared.prepare.Prepared.TheVariants.{Refused, Unread, Read}
use Rattle.command_core.specs.declared.line.FileFault.TheVariants.{OutOfMemory}
use Rattle.sealer_core.specs.Sealing.{Accounts, IsOfSealing, line_of, operations_of, seals, spoils}
use Rattle.sealer_core.proofs.Numbering.{sum_below_zeros, sum_below_first}
use Rattle.sealer_core.proofs.Owing.{adds_failure, held_cons, held_failed, let_go, nothing_held}

-- ---- numbers that a batch granted

-- none of them is one of these
module _ (q : Entry → Bool) (t : ℕ) (grants_none : (k : ℕ) → q (entry t (Granted k)) ≡ false) (ends_none : q (entry t Exhausted) ≡ false) where
  more : (e : Entry) (l : List Entry) → q e ≡ false → count_by q l ≡ 0 → count_by q (e ∷ l) ≡ 0
  more e l none rest =
      let all = sum_by-cons (λ (x : Entry). cond (q x) 1 0) e l in
      let one : cond {A = ℕ} (q e) 1 0 ≡ 0 = ap (λ b. cond {A = ℕ} b 1 0) none in omega arith

  issues_none : (os : List Outcome) → count_by q (issues t os) ≡ 0
  issues_none [] = refl
  issues_none (job.Sealed seat bytes spent ∷ os) = more (entry t (Granted spent.number)) (issues t os) (grants_none spent.number) (issues_none os)
  issues_none (job.Spoiled seat spent ∷ os) = more (entry t (Granted spent.number)) (issues t os) (grants_none spent.number) (issues_none os)
  issues_none (job.Unissued seat NoNumber ∷ os) = more (entry t Exhausted) (issues t os) ends_none (issues_none os)
  issues_none (job.Unissued seat SeatClosed ∷ os) = issues_none os
  issues_none (job.Unissued seat NoMemory ∷ os) = issues_none os

pub issues_settles : (n t : ℕ) (os : List Outcome) → count_by (settles n) (issues t os) ≡ 0
issues_settles n t os = issues_none (settles n) t (λ k. refl) refl os

issues_grants : (n t : ℕ) (os : List Outcome) → count_by (grants n) (issues t os) ≡ count_by (holds n) os
issues_grants n t [] = refl
issues_grants n t (job.Sealed seat bytes spent ∷ os) =
    let r = issues_grants n t os in let h = held_cons n (job.Sealed seat bytes spent) os in
    let c = sum_by-cons (λ (e : Entry). cond (grants n e) 1 0) (entry t (Granted spent.number)) (issues t os) in omega arith
issues_grants n t (job.Spoiled seat spent ∷ os) =
    let r = issues_grants n t os in let h = held_cons n (job.Spoiled seat spent) os in
    let c = sum_by-cons (λ (e : Entry). cond (grants n e) 1 0) (entry t (Granted spent.number)) (issues t os) in omega arith
issues_grants n t (job.Unissued seat NoNumber ∷ os) =
    let r = issues_grants n t os in let h = held_cons n (job.Unissued seat NoNumber) os in
    let c = sum_by-cons (λ (e : Entry). cond (grants n e) 1 0) (entry t Exhausted) (issues t os) in omega arith
issues_grants n t (job.Unissued seat SeatClosed ∷ os) =
    let r = issues_grants n t os in let h = held_cons n (job.Unissued seat SeatClosed) os in omega arith
issues_grants n t (job.Unissued seat NoMemory ∷ os) =
    let r = issues_grants n t os in let h = held_cons n (job.Unissued seat NoMemory) os in omega arith

-- the operations of all seats, where those of each grew by the issues of some outcomes
pub grown : (q : Entry → Bool) (c : List Outcome → ℕ) → ((t : ℕ) (os : List Outcome) → count_by q (issues t os) ≡ c os) → (of : ℕ → List Outcome) (old new : List SeatView)
    → length new ≡ length old
    → ((i : ℕ) (v w : SeatView) → slice_get old i ≡ Some v → slice_get new i ≡ Some w → w.mine ≡ v.mine ++ issues v.number (of i))
    → count_by q (operations_of new) ≡ count_by q (operations_of old) + sum_below (length old) (λ i. c (of i))
grown q c is of [] [] long each = refl
grown q c is of [] (w ∷ new) long each = absurd (omega arith)
grown q c is of (v ∷ old) [] long each = absurd (omega arith)
grown q c is of (v ∷ old) (w ∷ new) long each =
    let rest = grown q c is (λ i. of (suc i)) old new (omega arith) (λ i x y at also. each (suc i) x y at also) in
    let here = is v.number (of 0) in
    let mine : count_by q w.mine ≡ count_by q (v.mine ++ issues v.number (of 0)) = ap (count_by q) (each 0 v w refl refl) in
    let both = sum_by-append (λ (x : Entry). cond (q x) 1 0) v.mine (issues v.number (of 0)) in
    let now = sum_by-append (λ (x : Entry). cond (q x) 1 0) w.mine (operations_of new) in
    let was = sum_by-append (λ (x : Entry). cond (q x) 1 0) v.mine (operations_of old) in
    let first = sum_below_first (length old) (λ i. c (of i)) in
    omega arith

-- the outcomes of all seats are all outcomes
shared : (h : Outcome → Bool) (n : ℕ) (os : List Outcome) → ((j : ℕ) (o : Outcome) → slice_get os j ≡ Some o → seat_of o < n)
    → sum_below n (λ i. count_by h (of_seat i os)) ≡ count_by h os
shared h n [] below = sum_below_zeros n
shared h n (o ∷ os) below =
    let rest = shared h n os (λ j x at. below (suc j) x at) in
    let more = sum_below_more n (seat_of o) (cond (h o) 1 0) (λ i. count_by h (of_seat i os)) (λ i. count_by h (of_seat i (o ∷ os))) (below 0 o refl) (λ t. step t (nat_eq (seat_of o) t)) in
    let all = sum_by-cons (λ (x : Outcome). cond (h x) 1 0) o os in
    omega arith
  where
    step : (t : ℕ) (b : Bool) → count_by h (cond b (o ∷ of_seat t os) (of_seat t os)) ≡ count_by h (of_seat t os) + cond b (cond (h o) 1 0) 0
    step t true = let c = sum_by-cons (λ (x : Outcome). cond (h x) 1 0) o (of_seat t os) in omega arith
    step t false = omega arith

-- after a batch its numbers are held
pub after_batch : (old new : List SeatView) (os : List Outcome) (lines : List FileLine) (voids : List ℕ) → length new ≡ length old
    → ((j : ℕ) (o : Outcome) → slice_get os j ≡ Some o → seat_of o < length old) → AreIssued old new os
    → Accounts lines voids (operations_of old) → AreHeld lines voids os (operations_of new)
after_batch old new os lines voids long among issued a = record {
  told = λ n.
      let s = grown (seals n) (λ _. 0) (λ t l. issues_none (seals n) t (λ k. refl) refl l) (λ i. of_seat i os) old new long issued in
      let z = sum_below_zeros (length old) in
      let h = a.told n in omega arith;
  voided = λ n.
      let v = grown (spoils n) (λ _. 0) (λ t l. issues_none (spoils n) t (λ k. refl) refl l) (λ i. of_seat i os) old new long issued in
      let z = sum_below_zeros (length old) in
      let h = a.voided n in omega arith;
  granted = λ n.
      let v = grown (spoils n) (λ _. 0) (λ t l. issues_none (spoils n) t (λ k. refl) refl l) (λ i. of_seat i os) old new long issued in
      let z = sum_below_zeros (length old) in
      let g = grown (grants n) (count_by (holds n)) (λ t l. issues_grants n t l) (λ i. of_seat i os) old new long issued in
      let all = shared (holds n) (length old) os among in
      let h = a.granted n in omega arith;
}

-- and owed
pub owed_batch : (old new : List SeatView) (os : List Outcome) → length new ≡ length old → AreIssued old new os → AreOwed old [] → AreOwed new os
owed_batch old new os long issued a = record {
  each = λ i n w at.
      let inside = slice_get_within new i w at in
      let v : SeatView = get_or old i w in
      let was : slice_get old i ≡ Some v = slice_get-get_or old i w (omega arith) in
      let mine = issued i v w was at in
      let before = a.each i n v was in
      let settled : times_settled n w.mine ≡ times_settled n (v.mine ++ issues v.number (of_seat i os)) = ap (times_settled n) mine in
      let granted : times_granted n w.mine ≡ times_granted n (v.mine ++ issues v.number (of_seat i os)) = ap (times_granted n) mine in
      let settled' = sum_by-append (λ (x : Entry). cond (settles n x) 1 0) v.mine (issues v.number (of_seat i os)) in
      let granted' = sum_by-append (λ (x : Entry). cond (grants n x) 1 0) v.mine (issues v.number (of_seat i os)) in
      let none = issues_settles n v.number (of_seat i os) in
      let some = issues_grants n v.number (of_seat i os) in
      omega arith;
}

-- the same for an equal list
pub held_as : (lines : List FileLine) (voids : List ℕ) (os os' : List Outcome) (operations : List Entry) → os ≡ os' → AreHeld lines voids os operations → AreHeld lines voids os' operations
held_as lines voids os os' operations is a = subst (λ (l : List Outcome). AreHeld lines voids l operations) is a

-- a file that failed without a number
pub held_without : (lines : List FileLine) (voids void : List ℕ) (os : List Outcome) (operations : List Entry) (name : List ℕ) (fault : FileFault) → void ≡ [] → AreHeld lines voids os operations
    → AreHeld (lines ++ line_of name (Failed fault) ∷ []) (voids ++ void) os operations
held_without lines voids void os operations name fault none a =
    subst (λ v. AreHeld (lines ++ line_of name (Failed fault) ∷ []) (voids ++ v) os operations) (sym none) (held_failed lines voids os operations name fault a)

-- the void number of a file that was read is that of its outcome
pub void_read : {W : Type 0} (file : Prepared W) (name : Bor (List ℕ)) (writer : W) (bytes : ℕ) (os os' : List Outcome) (end : FileOutcome) → file ≡ Read name writer bytes → os ≡ os' → void_in file os end ≡ void_by os' end
void_read file name writer bytes os os' end is same = ap (λ f. void_in f os end) is ∙ ap (λ l. void_by l end) same

pub void_unread : {W : Type 0} (file its : Prepared W) (os : List Outcome) (end : FileOutcome) → file ≡ its → void_in its os end ≡ [] → void_in file os end ≡ []
void_unread file its os end is none = ap (λ f. void_in f os end) is ∙ none

-- each outcome names one of the seats
pub among_seats : (lanes seats : ℕ) (new : List SeatView) (os : List Outcome) → lanes ≤ seats → AreAmong lanes new os
    → (j : ℕ) (o : Outcome) → slice_get os j ≡ Some o → seat_of o < seats
among_seats lanes seats new os few among j o at = let below = (among j o at).0 in omega arith

has_ended : (key : List ℕ) (shape : ShapeView) (j : List ℕ) (o : Outcome) (device : ℕ) (seat : SeatView) → seat.terms.range.device ≡ device → IsAt seat o → IsOutcome key shape j o → HasEnded device o
has_ended key shape j (job.Sealed place bytes spent) device seat same at is = (at.0 ∙ same, is.1)
has_ended key shape j (job.Spoiled place spent) device seat same at is = (at.0 ∙ same, is)
has_ended key shape j (job.Unissued place fault) device seat same at is = tt

pub outcomes_held : (key : List ℕ) (shape : ShapeView) (jobs : List (List ℕ)) (lanes seats : ℕ) (ledger : LedgerView) (new : List SeatView) (os : List Outcome) → lanes ≤ seats → AreOutcomes key shape jobs os
    → AreAmong lanes new os → AreAllSeats ledger new → All (IsOfSeats seats ledger.terms.range.device) os
outcomes_held key shape jobs lanes seats ledger new os few outcomes among all = λ k d below.
    let at = slice_get-get_or os k d below in
    let (less, (seat, there, is_at)) = among k (get_or os k d) at in
    let same : seat.terms ≡ ledger.terms = (all.each (seat_of (get_or os k d)) seat there).1 in
    let count = outcomes.count in
    let inside : k < length jobs = omega arith in (
      omega arith,
      has_ended key shape (get_or jobs k []) (get_or os k d) ledger.terms.range.device seat (ap (λ (t : Terms). t.range.device) same) is_at
          (outcomes.each k (get_or jobs k []) (get_or os k d) (slice_get-get_or jobs k [] inside) at),
    )

-- ---- outcomes for files that were read

-- at most as many as there are files that were read
pub few_outcomes : {W : Type 0} (key : List ℕ) (shape : ShapeView) (slice jobs : List (Vec ℕ Global)) (files : List (Prepared W)) (os : List Outcome)
    → (os ≡ []) ⊎ AreOutcomes key shape (map (λ (job : Vec ℕ Global). job.items) slice) os → slice ≡ jobs
    → map (λ (job : Vec ℕ Global). length job.items) jobs ≡ flat_map read_of files → length os ≤ length (flat_map read_of files)
few_outcomes key shape slice jobs files os how same read =
    let all = ap length read in
    let long = ap length same in
    let items = length-map slice (λ (job : Vec ℕ Global). job.items) in
    let lengths = length-map jobs (λ (job : Vec ℕ Global). length job.items) in
    ⊎_elim
    (λ (none : os ≡ []). let no = ap length none in omega arith)
    (λ (some : AreOutcomes key shape (map (λ (job : Vec ℕ Global). job.items) slice) os). let count = some.count in omega arith)
    how

-- no more jobs than names
pub few_jobs : {W : Type 0} (files : List (Prepared W)) (jobs : List (Vec ℕ Global)) (names : List (Bor (List ℕ))) → map name_of files ≡ map (λ (name : Bor (List ℕ)). name.now) names
    → map (λ (job : Vec ℕ Global). length job.items) jobs ≡ flat_map read_of files → length jobs ≤ length names
few_jobs {W = W} files jobs names named read =
    let all = ap length read in
    let lengths = length-map jobs (λ (job : Vec ℕ Global). length job.items) in
    let called = ap length named in
    let files' = length-map files name_of in
    let names' = length-map names (λ (name : Bor (List ℕ)). name.now) in
    let few = at_most files in
    omega arith
  where
    at_most : (fs : List (Prepared W)) → length (flat_map read_of fs) ≤ length fs
    at_most [] = lit≤ tt
    at_most (Refused name fault ∷ fs) = let rest = at_most fs in omega arith
    at_most (Unread name writer fault ∷ fs) = let rest = at_most fs in omega arith
    at_most (Read name writer bytes ∷ fs) = let rest = at_most fs in omega arith

pub few_left : {W : Type 0} (items left : List (Prepared W)) (file : Prepared W) (os os' : List Outcome) → items ≡ file ∷ left → os' ≡ left_by file os
    → length os ≤ length (flat_map read_of items) → length os' ≤ length (flat_map read_of left)
few_left {W = W} items left file os os' is next few =
    let front : length (flat_map read_of items) ≡ length (read_of file ++ flat_map read_of left) = ap (λ l. length (flat_map read_of l)) is in
    let both = length-append (read_of file) (flat_map read_of left) in
    let fewer = by file in
    let same = ap length next in
    omega arith
  where
    by : (f : Prepared W) → length (left_by f os) ≤ length os - length (read_of f)
    by (Refused name fault) = omega arith
    by (Unread name writer fault) = omega arith
    by (Read name writer bytes) = let d = length-drop 1 os in omega arith

pub none_left : {W : Type 0} (files : List (Prepared W)) (os : List Outcome) → files ≡ [] → length os ≤ length (flat_map read_of files) → os ≡ []
none_left files [] none few = refl
none_left files (o ∷ os) none few = let no = ap (λ l. length (flat_map read_of l)) none in absurd (omega arith)

-- ---- files of a group that have their lines

-- The state so far with these files, of which the latter have no line yet.
pub record AreEnding {W : Type 0} (happened : List FileLine → List ℕ → Type 0) (files left : List (Prepared W)) (old new : GroupView)
    : Type 0 where
  pub names : List (List ℕ)
  pub named : names ++ map name_of left ≡ map name_of files
  pub ended : AreEnded happened names old new

-- none has one yet
pub nothing_ended : (happened : List FileLine → List ℕ → Type 0) (v : GroupView) → happened [] [] → AreEnded happened [] v v
nothing_ended happened v done = record {
  lines = [];
  voids = [];
  named = refl;
  fitting = All-nil (λ (l : FileLine). IsOfSealing l.outcome);
  told = λ before first count t. subst (λ (l : List FileLine). AreTold v.status l first v.lines.taken count v.lines.failures) (sym (append-nil before)) t;
  accounts = λ before earlier a.
      subst (λ (l : List FileLine). AreHeld l (earlier ++ []) v.outcomes v.operations) (sym (append-nil before))
      (subst (λ (n : List ℕ). AreHeld before n v.outcomes v.operations) (sym (append-nil earlier)) a);
  done = done;
}

-- one more has its line
pub ended_more : (happened happened' : List FileLine → List ℕ → Type 0) (names : List (List ℕ)) (line : FileLine) (void : List ℕ) (old mid new : GroupView)
    → (e : AreEnded happened names old mid)
    → IsOfSealing line.outcome
    → ((told : List FileLine) (first : Option (List ℕ)) (count : Option ℕ) → AreTold mid.status told first mid.lines.taken count mid.lines.failures
    → AreTold new.status (told ++ line ∷ []) first new.lines.taken count new.lines.failures)
    → ((lines : List FileLine) (voids : List ℕ) → AreHeld lines voids mid.outcomes mid.operations → AreHeld (lines ++ line ∷ []) (voids ++ void) new.outcomes new.operations)
    → happened' (e.lines ++ line ∷ []) (e.voids ++ void)
    → AreEnded happened' (names ++ line.name ∷ []) old new
ended_more happened happened' names line void old mid new e fit told accounts done = record {
  lines = e.lines ++ line ∷ [];
  voids = e.voids ++ void;
  named = map-append (λ (l : FileLine). l.name) e.lines (line ∷ []) ∙ ap (λ l. l ++ line.name ∷ []) e.named;
  fitting = All-push (λ (l : FileLine). IsOfSealing l.outcome) e.lines line e.fitting fit;
  told = λ before first count t. subst (λ (l : List FileLine). AreTold new.status l first new.lines.taken count new.lines.failures) (append_assoc before e.lines (line ∷ []))
      (told (before ++ e.lines) first count (e.told before first count t));
  accounts = λ before earlier a.
      subst (λ (l : List FileLine). AreHeld l (earlier ++ (e.voids ++ void)) new.outcomes new.operations) (append_assoc before e.lines (line ∷ []))
      (subst (λ (v : List ℕ). AreHeld ((before ++ e.lines) ++ line ∷ []) v new.outcomes new.operations) (append_assoc earlier e.voids void)
      (accounts (before ++ e.lines) (earlier ++ e.voids) (e.accounts before earlier a)));
  done = done;
}

-- the group was processed
pub group_of : (happened happened' : List FileLine → List ℕ → Type 0) (names names' : List (List ℕ)) (operations : List Entry) (old new : GroupView)
    → AreEnded happened names old new
    → names ≡ names' → ((lines : List FileLine) (voids : List ℕ) → Accounts lines voids operations → AreHeld lines voids old.outcomes old.operations)
    → ((lines : List FileLine) (voids : List ℕ) → happened lines voids → happened' lines voids)
    → AreEnded happened' names' (group_view [] operations old.status old.lines) new
group_of happened happened' names names' operations old new e same held also = record {
  lines = e.lines;
  voids = e.voids;
  named = e.named ∙ same;
  fitting = e.fitting;
  told = e.told;
  accounts = λ before earlier a. e.accounts before earlier (held before earlier (let_go before earlier operations a));
  done = also e.lines e.voids e.done;
}

-- ---- files of a group before the sealing

module _ {W : Type 0} (items items' : List (Prepared W)) (file : Prepared W) (is : items' ≡ items ++ file ∷ []) where
  pub prepared_names : (before after : List (List ℕ)) (name : List ℕ) → map name_of items ≡ before → name_of file ≡ name → before ++ name ∷ [] ≡ after
      → map name_of items' ≡ after
  prepared_names before after name so its longer =
      ap (map name_of) is ∙ map-append name_of items (file ∷ []) ∙ ap (λ l. l ++ name_of file ∷ []) so ∙ ap (λ n. before ++ n ∷ []) its ∙ longer

  pub prepared_read : (jobs jobs' : List ℕ) → jobs ≡ flat_map read_of items → jobs' ≡ jobs ++ read_of file → jobs' ≡ flat_map read_of items'
  prepared_read jobs jobs' so more =
      more ∙ ap (λ l. l ++ read_of file) so ∙ ap (λ l. flat_map read_of items ++ l) (sym (append-nil (read_of file)))
      ∙ sym (flat_map-append read_of items (file ∷ [])) ∙ sym (ap (flat_map read_of) is)

  pub prepared_all : All IsPrepared items → IsPrepared file → All IsPrepared items'
  prepared_all so its = subst (All IsPrepared) (sym is) (All-push IsPrepared items file so its)

pub ending_none : {W : Type 0} (happened : List FileLine → List ℕ → Type 0) (files : List (Prepared W)) (v : GroupView) → happened [] []
    → AreEnding happened files files v v
ending_none happened files v done = record {
  names = [];
  named = refl;
  ended = nothing_ended happened v done;
}

pub ending_more : {W : Type 0} (happened happened' : List FileLine → List ℕ → Type 0) (files items left : List (Prepared W)) (file : Prepared W) (name : List ℕ) (outcome : FileOutcome) (void : List ℕ)
    (old mid new : GroupView) → items ≡ file ∷ left → name ≡ name_of file
    → (e : AreEnding happened files items old mid)
    → IsOfSealing outcome
    → ((told : List FileLine) (first : Option (List ℕ)) (count : Option ℕ) → AreTold mid.status told first mid.lines.taken count mid.lines.failures
    → AreTold new.status (told ++ line_of name outcome ∷ []) first new.lines.taken count new.lines.failures)
    → ((lines : List FileLine) (voids : List ℕ) → AreHeld lines voids mid.outcomes mid.operations
    → AreHeld (lines ++ line_of (name_of file) outcome ∷ []) (voids ++ void) new.outcomes new.operations)
    → happened' (e.ended.lines ++ line_of (name_of file) outcome ∷ []) (e.ended.voids ++ void)
    → AreEnding happened' files left old new
ending_more happened happened' files items left file name outcome void old mid new is its e fit told accounts done = record {
  names = e.names ++ name_of file ∷ [];
  named = append_assoc e.names (name_of file ∷ []) (map name_of left) ∙ ap (λ l. e.names ++ map name_of l) (sym is) ∙ e.named;
  ended = ended_more happened happened' e.names (line_of (name_of file) outcome) void old mid new e.ended fit
      (λ before first count t.
      subst (λ (n : List ℕ). AreTold new.status (before ++ line_of n outcome ∷ []) first new.lines.taken count new.lines.failures) its (told before first count t)) accounts done;
}

pub ending_all : {W : Type 0} (happened happened' : List FileLine → List ℕ → Type 0) (files left : List (Prepared W)) (old new : GroupView)
    → left ≡ [] → length new.outcomes ≤ length (flat_map read_of left)
    → ((lines : List FileLine) (voids : List ℕ) → happened lines voids → happened' lines voids)
    → AreEnding happened files left old new
    → AreEnded happened' (map name_of files) old (record new { outcomes = [] })
ending_all happened happened' files left old new none few also e =
    subst (λ (n : List (List ℕ)). AreEnded happened' n old (record new { outcomes = [] }))
    (sym (append-nil e.names) ∙ ap (λ l. e.names ++ map name_of l) (sym none) ∙ e.named)
    (subst (λ (os : List Outcome). AreEnded happened' e.names old (record new { outcomes = os }))
    (none_left left new.outcomes none few) (record {
      lines = e.ended.lines;
      voids = e.ended.voids;
      named = e.ended.named;
      fitting = e.ended.fitting;
      told = e.ended.told;
      accounts = e.ended.accounts;
      done = also e.ended.lines e.ended.voids e.ended.done;
    }))

-- ---- a group for which memory was refused

refused_named : (names : List (List ℕ)) → map (λ (l : FileLine). l.name) (refused_lines names) ≡ names
refused_named [] = refl
refused_named (name ∷ names) = ap (λ l. name ∷ l) (refused_named names)

refused_fitting : (names : List (List ℕ)) → All (λ (l : FileLine). IsOfSealing l.outcome) (refused_lines names)
refused_fitting [] = All-nil (λ (l : FileLine). IsOfSealing l.outcome)
refused_fitting (name ∷ names) = All-cons (λ (l : FileLine). IsOfSealing l.outcome) (line_of name (Failed OutOfMemory)) (refused_lines names) tt (refused_fitting names)

refused_accounts : (names : List (List ℕ)) (before : List FileLine) (earlier : List ℕ) (operations : List Entry) → Accounts before earlier operations
    → Accounts (before ++ refused_lines names) (earlier ++ []) operations
refused_accounts [] before earlier operations a = subst (λ (l : List FileLine). Accounts l (earlier ++ []) operations) (sym (append-nil before))
    (subst (λ (v : List ℕ). Accounts before v operations) (sym (append-nil earlier)) a)
refused_accounts (name ∷ names) before earlier operations a =
    let one : Accounts (before ++ line_of name (Failed OutOfMemory) ∷ []) earlier operations =
    subst (λ (v : List ℕ). Accounts (before ++ line_of name (Failed OutOfMemory) ∷ []) v operations) (append-nil earlier) (adds_failure before earlier operations name a OutOfMemory) in
    subst (λ (l : List FileLine). Accounts l (earlier ++ []) operations) (append_assoc before (line_of name (Failed OutOfMemory) ∷ []) (refused_lines names))
    (refused_accounts names (before ++ line_of name (Failed OutOfMemory) ∷ []) earlier operations one)

pub refused_more : (names names' : List (List ℕ)) (name : List ℕ) (before : List FileLine) → names ++ name ∷ [] ≡ names'
    → (before ++ refused_lines names) ++ line_of name (Failed OutOfMemory) ∷ [] ≡ before ++ refused_lines names'
refused_more names names' name before longer =
    append_assoc before (refused_lines names) (line_of name (Failed OutOfMemory) ∷ [])
    ∙ ap (λ l. before ++ l) (sym (map-append (λ (n : List ℕ). line_of n (Failed OutOfMemory)) names (name ∷ [])) ∙ ap refused_lines longer)

pub refused_group : (happened : List FileLine → List ℕ → Type 0) (names : List (List ℕ)) (operations : List Entry) (status status' : ℕ) (old new : Printed)
    → ((before : List FileLine) (first : Option (List ℕ)) (count : Option ℕ) → AreTold status before first old.taken count old.failures
    → AreTold status' (before ++ refused_lines names) first new.taken count new.failures)
    → happened (refused_lines names) [] → AreEnded happened names (group_view [] operations status old) (group_view [] operations status' new)
refused_group happened names operations status status' old new told done = record {
  lines = refused_lines names;
  voids = [];
  named = refused_named names;
  fitting = refused_fitting names;
  told = told;
  accounts = λ before earlier a. nothing_held (before ++ refused_lines names) (earlier ++ []) operations (refused_accounts names before earlier operations (let_go before earlier operations a));
  done = done;
}

-- ---- a group of one

pub single_name : (names : List (Bor (List ℕ))) (d : Bor (List ℕ)) → 0 < length names → length names ≤ 1 → map (λ (name : Bor (List ℕ)). name.now) names ≡ (get_or names 0 d).now ∷ []
single_name [] d some few = absurd (omega arith)
single_name (name ∷ []) d some few = refl
single_name (name ∷ other ∷ names) d some few = absurd (omega arith)

pub one_group : (happened : List FileLine → List ℕ → Type 0) (name : List ℕ) (names' : List (List ℕ)) (outcome : FileOutcome) (void : List ℕ) (operations operations' : List Entry) (status status' : ℕ)
    (old new : Printed) → names' ≡ name ∷ [] → IsOfSealing outcome
    → ((before : List FileLine) (first : Option (List ℕ)) (count : Option ℕ) → AreTold status before first old.taken count old.failures
    → AreTold status' (before ++ line_of name outcome ∷ []) first new.taken count new.failures)
    → ((before : List FileLine) (earlier : List ℕ) → Accounts before earlier operations → Accounts (before ++ line_of name outcome ∷ []) (earlier ++ void) operations')
    → happened (line_of name outcome ∷ []) void → AreEnded happened names' (group_view [] operations status old) (group_view [] operations' status' new)
one_group happened name names' outcome void operations operations' status status' old new named fit told accounts done = record {
  lines = line_of name outcome ∷ [];
  voids = void;
  named = sym named;
  fitting = All-cons (λ (l : FileLine). IsOfSealing l.outcome) (line_of name outcome) [] fit (All-nil (λ (l : FileLine). IsOfSealing l.outcome));
  told = told;
  accounts = λ before earlier a. nothing_held (before ++ line_of name outcome ∷ []) (earlier ++ void) operations' (accounts before earlier (let_go before earlier operations a));
  done = done;
}

-- ---- groups

pub rest_all : {X : Type 0} (P : X → Type 0) (xs ys : List X) (x : X) → xs ≡ x ∷ ys → All P xs → All P ys
rest_all P xs ys x is all = λ k d below. subst (All P) is all (suc k) d (omega arith)

-- the names of `done` files, and of the group after them
pub group_names : (files group : List (Bor (List ℕ))) (done more : ℕ) → group ≡ take more (drop done files) → length group ≡ more
    → map (λ (f : Bor (List ℕ)). f.now) (take done files) ++ map (λ (f : Bor (List ℕ)). f.now) group ≡ map (λ (f : Bor (List ℕ)). f.now) (take (done + length group) files)
group_names files group done more is long =
    sym (ap (λ (n : ℕ). map (λ (f : Bor (List ℕ)). f.now) (take (done + n) files)) long ∙ ap (map (λ (f : Bor (List ℕ)). f.now)) (take-add done more files)
    ∙ map-append (λ (f : Bor (List ℕ)). f.now) (take done files) (take more (drop done files))
    ∙ ap (λ l. map (λ (f : Bor (List ℕ)). f.now) (take done files) ++ map (λ (f : Bor (List ℕ)). f.now) l) (sym is))
