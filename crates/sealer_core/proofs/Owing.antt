-- A number that was granted is owed until it is settled, and its file's line and void number agree with the ledger.
use Rattle.std.proofs.Common.{◌≡◌, ◌≢◌, ◌⊎◌, ℕ, zero, suc, ◌+◌, ◌<◌, Bool, true, false, cond, nat_eq, eq-eqb, ne_eqb, length-append, List, [], ◌∷◌, ◌++◌, length, count_by, refl, sym, ap, ◌∙◌, subst, ⊎_elim, arith, get_or, set, All, append-nil}
use Rattle.std.specs.Prelude.{Some, slice_get}
use mathlib.Core.Logic.{dite}
use native.Mathlib.Decide.{ℕ_discrete}
use Rattle.std.proofs.lemmas.Option.{slice_get-get_or, slice_get_within, get_or_from_slice_get}
use Rattle.std.proofs.lemmas.List.{length-set}
use Rattle.std.proofs.lemmas.List.Elements.{All-nil, All-cons, All-head, All-tail}
use Rattle.std.proofs.lemmas.List.Sums.{sum_by-cons, sum_by-append}
use Rattle.journal_core.specs.declared.entry.Event.{Event}
use Rattle.journal_core.specs.declared.entry.Event.TheVariants.{Granted, Exhausted, Settled}
use Rattle.journal_core.specs.declared.entry.Entry.{Entry}
use Rattle.journal_core.specs.declared.entry.Way.{Way}
use Rattle.journal_core.specs.declared.entry.Way.TheVariants as ended
use Rattle.journal_core.specs.declared.terms.Terms.{Terms}
use Rattle.journal_core.specs.History.{entry, grants, settles, times_granted, times_settled}
use Rattle.journal_core.proofs.Histories.{count_push}
use Rattle.ledger_core.specs.declared.fault.IssueFault.{IssueFault}
use Rattle.ledger_core.specs.Shared.{LedgerView, SeatView, SpentView, GrantView, Extends, IsSameSeat, spent_as}
use Rattle.ledger_core.specs.Closing.{AreAllSeats}
use Rattle.ledger_core.proofs.Meetings.{get-set_here, get-set_else, unchanged}
use Rattle.crew_core.specs.declared.outcome.Outcome.{Outcome}
use Rattle.crew_core.specs.declared.outcome.Outcome.TheVariants as job
use Rattle.crew_core.specs.Batch.{seat_of, of_seat}
use Rattle.command_core.specs.declared.line.FileFault.{FileFault}
use Rattle.command_core.specs.declared.line.FileOutcome.{FileOutcome}
use Rattle.command_core.specs.declared.line.FileOutcome.TheVariants.{Sealed, Opened, Good, Shown, Failed}
use Rattle.command_core.specs.Lines.{FileLine}
use Rattle.sealer_core.specs.Group.{AreHeld, AreOwed, AreOwing, HasEnded, IsCounted, IsEnding, IsOfSeats, OwesAt, SettledAt, holds, void_at}
use Rattle.sealer_core.specs.Sealing.{Accounts, line_of, operations_of, seals, spoils, tells_of, times_sealed, times_voided, times_in}
use Rattle.sealer_core.proofs.Numbering.{in_append, in_push, mine_of, told_push}

-- ---- one seat's operation among those of all

mine_counts : (p : Entry → Bool) (old new : SeatView) (event : Event) → Extends old event new
    → count_by p new.mine ≡ count_by p old.mine + cond (p (entry old.number event)) 1 0
mine_counts p old new event more = ap (count_by p) (mine_of old new event more) ∙ count_push p old.mine (entry old.number event)

counted_by : (p : Entry → Bool) (seats : List SeatView) (i : ℕ) (d w : SeatView) (event : Event) → i < length seats → Extends (get_or seats i d) event w
    → count_by p (operations_of (set seats i w)) ≡ count_by p (operations_of seats) + cond (p (entry (get_or seats i d).number event)) 1 0
counted_by p [] i d w event below more = absurd (omega arith)
counted_by p (v ∷ seats) zero d w event below more =
    let grown = mine_counts p v w event more in
    let now = sum_by-append (λ (x : Entry). cond (p x) 1 0) w.mine (operations_of seats) in
    let was = sum_by-append (λ (x : Entry). cond (p x) 1 0) v.mine (operations_of seats) in
    omega arith
counted_by p (v ∷ seats) (suc i) d w event below more =
    let rest = counted_by p seats i d w event (omega arith) more in
    let now = sum_by-append (λ (x : Entry). cond (p x) 1 0) v.mine (operations_of (set seats i w)) in
    let was = sum_by-append (λ (x : Entry). cond (p x) 1 0) v.mine (operations_of seats) in
    omega arith

pub counted_at : (seats : List SeatView) (i : ℕ) (d w : SeatView) (event : Event) → i < length seats
    → Extends (get_or seats i d) event w → IsCounted (operations_of seats) (operations_of (set seats i w)) event
counted_at seats i d w event below more = ((get_or seats i d).number, λ p. counted_by p seats i d w event below more)

pub settled_at : (seats : List SeatView) (i : ℕ) (d w : SeatView) (number : ℕ) (way : Way) → i < length seats
    → Extends (get_or seats i d) (Settled number way) w → SettledAt i number seats (set seats i w)
settled_at seats i d w number way below more = record {
  here = λ before after at now.
      let was : get_or seats i d ≡ before = get_or_from_slice_get seats i before d at in
      let set_now = get-set_here seats i w below in
      let is : after ≡ w = cc in
      (way, ap (λ (v : SeatView). v.mine) is ∙ mine_of (get_or seats i d) w (Settled number way) more ∙ ap (λ (v : SeatView). v.mine ++ entry v.number (Settled number way) ∷ []) was);
  others = λ j other. get-set_else seats i j w other;
}

-- ---- numbers that are settled one by one

pub held_cons : (n : ℕ) (o : Outcome) (os : List Outcome) → count_by (holds n) (o ∷ os) ≡ cond (holds n o) 1 0 + count_by (holds n) os
held_cons n o os = sum_by-cons (λ (x : Outcome). cond (holds n x) 1 0) o os

pub held_failed : (lines : List FileLine) (voids : List ℕ) (os : List Outcome) (operations : List Entry) (name : List ℕ) (fault : FileFault) → AreHeld lines voids os operations
    → AreHeld (lines ++ line_of name (Failed fault) ∷ []) (voids ++ []) os operations
held_failed lines voids os operations name fault a = record {
  told = λ n. let t = told_push n lines (line_of name (Failed fault)) in let h = a.told n in omega arith;
  voided = λ n. let i = in_append n voids [] in let h = a.voided n in omega arith;
  granted = λ n. let t = told_push n lines (line_of name (Failed fault)) in let h = a.granted n in omega arith;
}

-- if there was no batch nothing is held
pub nothing_held : (lines : List FileLine) (voids : List ℕ) (operations : List Entry) → Accounts lines voids operations → AreHeld lines voids [] operations
nothing_held lines voids operations a = record { told = a.told; voided = a.voided; granted = λ n. let h = a.granted n in omega arith }

-- if nothing is held any more no number is owed
pub let_go : (lines : List FileLine) (voids : List ℕ) (operations : List Entry) → AreHeld lines voids [] operations → Accounts lines voids operations
let_go lines voids operations a = record { told = a.told; voided = a.voided; granted = λ n. let h = a.granted n in omega arith }

-- a file that failed without a number
pub adds_failure : (lines : List FileLine) (voids : List ℕ) (operations : List Entry) (name : List ℕ) → Accounts lines voids operations → (fault : FileFault)
    → Accounts (lines ++ line_of name (Failed fault) ∷ []) (voids ++ []) operations
adds_failure lines voids operations name a fault =
    let_go (lines ++ line_of name (Failed fault) ∷ []) (voids ++ []) operations (held_failed lines voids [] operations name fault (nothing_held lines voids operations a))

held_fewer : (lines : List FileLine) (voids : List ℕ) (o : Outcome) (os : List Outcome) (operations : List Entry) (seat : ℕ) (fault : IssueFault) → o ≡ job.Unissued seat fault
    → AreHeld lines voids (o ∷ os) operations → AreHeld lines voids os operations
held_fewer lines voids o os operations seat fault is a = record {
  told = a.told;
  voided = a.voided;
  granted = λ n.
      let c = held_cons n o os in
      let none : cond {A = ℕ} (holds n o) 1 0 ≡ 0 = ap (λ (x : Outcome). cond {A = ℕ} (holds n x) 1 0) is in
      let h = a.granted n in omega arith;
}

-- how often a number was settled and granted after a settlement
record Settling (k n : ℕ) (old new : List Entry) (sealed voided : ℕ) : Type 0 where
  pub seal : times_sealed n new ≡ times_sealed n old + sealed
  pub void : times_voided n new ≡ times_voided n old + voided
  pub grant : times_granted n new ≡ times_granted n old

void_counts : (k n : ℕ) (old new : List Entry) → IsCounted old new (Settled k ended.Void) → Settling k n old new 0 (cond (nat_eq n k) 1 0)
void_counts k n old new (seat, one) =
    let s = one (seals n) in let v = one (spoils n) in let g = one (grants n) in
    record { seal = s; void = v; grant = omega arith }

seal_counts : (k n : ℕ) (old new : List Entry) → IsCounted old new (Settled k ended.Sealed) → Settling k n old new (cond (nat_eq n k) 1 0) 0
seal_counts k n old new (seat, one) =
    let s = one (seals n) in let v = one (spoils n) in let g = one (grants n) in
    record { seal = s; void = v; grant = omega arith }

module _ (lines : List FileLine) (voids : List ℕ) (o : Outcome) (os : List Outcome) (k : ℕ) (old new : List Entry) (name : List ℕ) (its : (n : ℕ) → holds n o ≡ nat_eq n k)
    (a : AreHeld lines voids (o ∷ os) old) where
  held_settled : (outcome : FileOutcome) (void : List ℕ) (sealed voided : ℕ → ℕ) → ((n : ℕ) → Settling k n old new (sealed n) (voided n))
      → ((n : ℕ) → cond {A = ℕ} (tells_of n outcome) 1 0 ≡ sealed n) → ((n : ℕ) → times_in n void ≡ voided n)
      → ((n : ℕ) → sealed n + voided n ≡ cond {A = ℕ} (nat_eq n k) 1 0) → AreHeld (lines ++ line_of name outcome ∷ []) (voids ++ void) os new
  held_settled outcome void sealed voided how telling voiding one = record {
    told = λ n.
        let t = told_push n lines (line_of name outcome) in let tells = telling n in
        let seal = (how n).seal in
        let h = a.told n in omega arith;
    voided = λ n.
        let i = in_append n voids void in let its_void = voiding n in
        let void = (how n).void in
        let h = a.voided n in omega arith;
    granted = λ n.
        let t = told_push n lines (line_of name outcome) in let tells = telling n in
        let void = (how n).void in let grant = (how n).grant in let once = one n in
        let c = held_cons n o os in
        let i : cond {A = ℕ} (holds n o) 1 0 ≡ cond {A = ℕ} (nat_eq n k) 1 0 = ap (λ b. cond {A = ℕ} b 1 0) (its n) in
        let h = a.granted n in omega arith;
  }

  held_void : (outcome : FileOutcome) → ((n : ℕ) → tells_of n outcome ≡ false) → IsCounted old new (Settled k ended.Void)
      → AreHeld (lines ++ line_of name outcome ∷ []) (voids ++ k ∷ []) os new
  held_void outcome none how =
      held_settled outcome (k ∷ []) (λ n. 0) (λ n. cond (nat_eq n k) 1 0) (λ n. void_counts k n old new how) (λ n. ap (λ b. cond {A = ℕ} b 1 0) (none n))
      (λ n. let push : times_in n (k ∷ []) ≡ 0 + cond {A = ℕ} (nat_eq n k) 1 0 = in_push n [] k in omega arith) (λ n. omega arith)

  -- the number of an outcome ends as its file's line says
  pub held_ended : (outcome : FileOutcome) → IsEnding k old new outcome → AreHeld (lines ++ line_of name outcome ∷ []) (voids ++ void_at k outcome) os new
  held_ended (Sealed m bytes) (is, how) = subst (λ (x : ℕ). AreHeld (lines ++ line_of name (Sealed x bytes) ∷ []) (voids ++ []) os new) (sym is)
      (held_settled (Sealed k bytes) [] (λ n. cond (nat_eq n k) 1 0) (λ n. 0) (λ n. seal_counts k n old new how) (λ n. refl) (λ n. refl) (λ n. omega arith))
  held_ended (Opened bytes) how = held_void (Opened bytes) (λ n. refl) how
  held_ended (Good bytes) how = held_void (Good bytes) (λ n. refl) how
  held_ended (Shown bytes facts) how = held_void (Shown bytes facts) (λ n. refl) how
  held_ended (Failed fault) how = held_void (Failed fault) (λ n. refl) how

-- a number was granted: it is held as that of an outcome
granted_counts : (lines : List FileLine) (voids : List ℕ) (grant : GrantView) (old new : List Entry) → IsCounted old new (Granted grant.number) → Accounts lines voids old
    → AreHeld lines voids (job.Spoiled 0 (spent_as grant ended.Void) ∷ []) new
granted_counts lines voids grant old new (place, one) a = record {
  told = λ n. let s = one (seals n) in let h = a.told n in omega arith;
  voided = λ n. let v = one (spoils n) in let h = a.voided n in omega arith;
  granted = λ n.
      let v = one (spoils n) in let g = one (grants n) in let h = a.granted n in
      let c = held_cons n (job.Spoiled 0 (spent_as grant ended.Void)) [] in omega arith;
}

-- the range was exhausted
exhausted_counts : (lines : List FileLine) (voids : List ℕ) (old new : List Entry) (name : List ℕ) (fault : FileFault) → IsCounted old new Exhausted → Accounts lines voids old
    → Accounts (lines ++ line_of name (Failed fault) ∷ []) (voids ++ []) new
exhausted_counts lines voids old new name fault (place, one) a = record {
  told = λ n. let t = told_push n lines (line_of name (Failed fault)) in let s = one (seals n) in let h = a.told n in omega arith;
  voided = λ n. let i = in_append n voids [] in let v = one (spoils n) in let h = a.voided n in omega arith;
  granted = λ n. let t = told_push n lines (line_of name (Failed fault)) in let v = one (spoils n) in let g = one (grants n) in let h = a.granted n in omega arith;
}

-- ---- one seat by itself

module _ (lines : List FileLine) (voids : List ℕ) (old : SeatView) (name : List ℕ) (a : Accounts lines voids old.mine) where
  -- it granted no number
  pub after_failure : (new : SeatView) (fault : FileFault) → (new ≡ old) ⊎ Extends old Exhausted new
      → Accounts (lines ++ line_of name (Failed fault) ∷ []) (voids ++ []) new.mine
  after_failure new fault how = ⊎_elim
      (λ (same : new ≡ old). subst (λ (v : SeatView). Accounts (lines ++ line_of name (Failed fault) ∷ []) (voids ++ []) v.mine) (sym same) (adds_failure lines voids old.mine name a fault))
      (λ (more : Extends old Exhausted new). exhausted_counts lines voids old.mine new.mine name fault (old.number, λ p. mine_counts p old new Exhausted more) a)
      how

  -- it granted one, which a sealing gave back
  module _ (mid new : SeatView) (grant : GrantView) (spent : SpentView) (one : Extends old (Granted grant.number) mid)
      (how : Extends mid (Settled spent.number spent.way) new) where
    after_end : (end : FileOutcome) → IsEnding grant.number mid.mine new.mine end
        → Accounts (lines ++ line_of name end ∷ []) (voids ++ void_at grant.number end) new.mine
    after_end end ending =
        let_go (lines ++ line_of name end ∷ []) (voids ++ void_at grant.number end) new.mine
        (held_ended lines voids (job.Spoiled 0 (spent_as grant ended.Void)) [] grant.number mid.mine new.mine name (λ n. refl)
        (granted_counts lines voids grant old.mine mid.mine (old.number, λ p. mine_counts p old mid (Granted grant.number) one) a) end ending)

    settled_as : (way : Way) → spent ≡ spent_as grant way → IsCounted mid.mine new.mine (Settled grant.number way)
    settled_as way is = (mid.number, λ p. mine_counts p mid new (Settled grant.number way) (subst (λ (s : SpentView). Extends mid (Settled s.number s.way) new) is how))

    pub after_run : (number bytes : ℕ) → spent ≡ spent_as grant ended.Sealed → number ≡ grant.number
        → Accounts (lines ++ line_of name (Sealed number bytes) ∷ []) (voids ++ []) new.mine
    after_run number bytes is same = after_end (Sealed number bytes) (same, settled_as ended.Sealed is)

    pub after_fault : (fault : FileFault) → spent ≡ spent_as grant ended.Void
        → Accounts (lines ++ line_of name (Failed fault) ∷ []) (voids ++ grant.number ∷ []) new.mine
    after_fault fault is = after_end (Failed fault) (settled_as ended.Void is)

-- ---- numbers that are owed at each seat

-- the outcomes that name a seat, with one more before them
of_seat-cons : (n i : ℕ) (o : Outcome) (os : List Outcome) → count_by (holds n) (of_seat i (o ∷ os)) ≡ cond (nat_eq (seat_of o) i) (cond (holds n o) 1 0) 0 + count_by (holds n) (of_seat i os)
of_seat-cons n i o os = go (nat_eq (seat_of o) i)
  where
    go : (b : Bool) → count_by (holds n) (cond b (o ∷ of_seat i os) (of_seat i os)) ≡ cond b (cond (holds n o) 1 0) 0 + count_by (holds n) (of_seat i os)
    go true = held_cons n o (of_seat i os)
    go false = omega arith

-- a number that an outcome names is settled
pub owed_fewer : (old new : List SeatView) (o : Outcome) (os : List Outcome) (number : ℕ) → length new ≡ length old → SettledAt (seat_of o) number old new
    → ((n : ℕ) → holds n o ≡ nat_eq n number) → AreOwed old (o ∷ os) → AreOwed new os
owed_fewer old new o os number long s its a = record { each = λ i n w at. dite (ℕ_discrete i (seat_of o)) (here i n w at) (other i n w at) }
  where
    here : (i n : ℕ) (w : SeatView) → slice_get new i ≡ Some w → i ≡ seat_of o → times_settled n w.mine + count_by (holds n) (of_seat i os) ≡ times_granted n w.mine
    here i n w at same =
        let inside = slice_get_within new i w at in
        let v : SeatView = get_or old i w in
        let was : slice_get old i ≡ Some v = slice_get-get_or old i w (omega arith) in
        let (way, mine) = s.here v w (ap (slice_get old) (sym same) ∙ was) (ap (slice_get new) (sym same) ∙ at) in
        let settled = count_push (settles n) v.mine (entry v.number (Settled number way)) in
        let granted = count_push (grants n) v.mine (entry v.number (Settled number way)) in
        let settled' : times_settled n w.mine ≡ times_settled n (v.mine ++ entry v.number (Settled number way) ∷ []) = ap (times_settled n) mine in
        let granted' : times_granted n w.mine ≡ times_granted n (v.mine ++ entry v.number (Settled number way) ∷ []) = ap (times_granted n) mine in
        let before = a.each i n v was in
        let front = of_seat-cons n i o os in
        let hit : cond {A = ℕ} (nat_eq (seat_of o) i) (cond (holds n o) 1 0) 0 ≡ cond (holds n o) 1 0 = ap (λ b. cond {A = ℕ} b (cond (holds n o) 1 0) 0) (eq-eqb (seat_of o) i (sym same)) in
        let its' : cond {A = ℕ} (holds n o) 1 0 ≡ cond {A = ℕ} (nat_eq n number) 1 0 = ap (λ b. cond {A = ℕ} b 1 0) (its n) in
        omega arith

    other : (i n : ℕ) (w : SeatView) → slice_get new i ≡ Some w → i ≢ seat_of o → times_settled n w.mine + count_by (holds n) (of_seat i os) ≡ times_granted n w.mine
    other i n w at apart =
        let before = a.each i n w (sym (s.others i apart) ∙ at) in
        let front = of_seat-cons n i o os in
        let miss : cond {A = ℕ} (nat_eq (seat_of o) i) (cond (holds n o) 1 0) 0 ≡ 0 = ap (λ b. cond {A = ℕ} b (cond (holds n o) 1 0) 0) (ne_eqb (seat_of o) i (λ is. apart (sym is))) in
        omega arith

-- an outcome that has spent no number
pub owed_unissued : (seats : List SeatView) (o : Outcome) (os : List Outcome) (seat : ℕ) (fault : IssueFault) → o ≡ job.Unissued seat fault → AreOwed seats (o ∷ os) → AreOwed seats os
owed_unissued seats o os seat fault is a = record {
  each = λ i n v at.
      let before = a.each i n v at in
      let front = of_seat-cons n i o os in
      let none : cond {A = ℕ} (nat_eq (seat_of o) i) (cond (holds n o) 1 0) 0 ≡ 0 = none_of i n in
      omega arith;
}
  where
    zero_both : (b : Bool) → cond {A = ℕ} b 0 0 ≡ 0
    zero_both true = refl
    zero_both false = refl

    none_of : (i n : ℕ) → cond {A = ℕ} (nat_eq (seat_of o) i) (cond (holds n o) 1 0) 0 ≡ 0
    none_of i n = ap (λ (x : Outcome). cond {A = ℕ} (nat_eq (seat_of o) i) (cond (holds n x) 1 0) 0) is ∙ zero_both (nat_eq (seat_of o) i)

-- the number of the first outcome is owed
owed_number : (seats : List SeatView) (o : Outcome) (os : List Outcome) (number : ℕ) → holds number o ≡ true → AreOwed seats (o ∷ os)
    → (v : SeatView) → slice_get seats (seat_of o) ≡ Some v → times_settled number v.mine < times_granted number v.mine
owed_number seats o os number its a = λ v at.
    let before = a.each (seat_of o) number v at in
    let front = of_seat-cons number (seat_of o) o os in
    let hit : cond {A = ℕ} (nat_eq (seat_of o) (seat_of o)) (cond (holds number o) 1 0) 0 ≡ cond (holds number o) 1 0 = ap (λ b. cond {A = ℕ} b (cond (holds number o) 1 0) 0) (eq-eqb (seat_of o) (seat_of o) refl) in
    let one : cond {A = ℕ} (holds number o) 1 0 ≡ 1 = ap (λ b. cond {A = ℕ} b 1 0) its in
    omega arith

-- new seats owe none
pub owed_none : (seats : List SeatView) → operations_of seats ≡ [] → AreOwed seats []
owed_none seats none = record { each = λ i n v at. let is = mine_none seats none i v at in let s = ap (times_settled n) is in let g = ap (times_granted n) is in omega arith }
  where
    empty : (l : List Entry) → length l ≡ 0 → l ≡ []
    empty [] is = refl
    empty (e ∷ l) is = absurd (omega arith)

    mine_none : (seats : List SeatView) → operations_of seats ≡ [] → (i : ℕ) (v : SeatView) → slice_get seats i ≡ Some v → v.mine ≡ []
    mine_none [] none i v at = absurd (cc)
    mine_none (x ∷ xs) none zero v at =
        let same : x ≡ v = cc in
        let long = ap length none in let both = length-append x.mine (operations_of xs) in
        empty v.mine (let mine = ap (λ (z : SeatView). length z.mine) same in omega arith)
    mine_none (x ∷ xs) none (suc i) v at =
        let long = ap length none in let both = length-append x.mine (operations_of xs) in
        mine_none xs (empty (operations_of xs) (omega arith)) i v at

-- ---- the first of the outcomes

pub first_as : (outcomes rest : List Outcome) (o its : Outcome) → outcomes ≡ o ∷ rest → o ≡ its → outcomes ≡ its ∷ rest
first_as outcomes rest o its is named = is ∙ ap (λ x. x ∷ rest) named

-- its number was granted by the seat at this place, and is to be settled there
module _ (ledger : LedgerView) (old : List SeatView) (outcomes rest : List Outcome) (o : Outcome) (place : ℕ) (spent : SpentView)
    (is : outcomes ≡ o ∷ rest) (at : seat_of o ≡ place) (its : (n : ℕ) → holds n o ≡ nat_eq n spent.number) where
  pub owes_first : ((device : ℕ) → HasEnded device o → spent.device ≡ device) → AreOwing ledger old outcomes → OwesAt ledger old place spent.device spent.number
  owes_first of owing =
      let held : IsOfSeats (length old) ledger.terms.range.device o = (All-head (IsOfSeats (length old) ledger.terms.range.device) o rest (subst (All (IsOfSeats (length old) ledger.terms.range.device)) is owing.held)) in
      let owed : AreOwed old (o ∷ rest) = subst (AreOwed old) is owing.owed in (
        subst (λ p. p < length old) at held.0,
        of ledger.terms.range.device held.1,
        subst (λ p. (seat : SeatView) → slice_get old p ≡ Some seat → times_settled spent.number seat.mine < times_granted spent.number seat.mine) at
            (owed_number old o rest spent.number (its spent.number ∙ eq-eqb spent.number spent.number refl) owed),
      )

  pub owing_rest : (new : List SeatView) → length new ≡ length old → AreAllSeats ledger new → SettledAt place spent.number old new → AreOwing ledger old outcomes → AreOwing ledger new rest
  owing_rest new long all settled owing = record {
    all = all;
    held = subst (λ n. All (IsOfSeats n ledger.terms.range.device) rest) (sym long)
        (All-tail (IsOfSeats (length old) ledger.terms.range.device) o rest (subst (All (IsOfSeats (length old) ledger.terms.range.device)) is owing.held));
    owed = owed_fewer old new o rest spent.number long (subst (λ p. SettledAt p spent.number old new) (sym at) settled) its (subst (AreOwed old) is owing.owed);
  }

  -- it ends as its file's line says
  pub ended_first : (lines : List FileLine) (voids void : List ℕ) (before after : List Entry) (name : List ℕ) (end : FileOutcome) → void ≡ void_at spent.number end → IsEnding spent.number before after end
      → AreHeld lines voids outcomes before → AreHeld (lines ++ line_of name end ∷ []) (voids ++ void) rest after
  ended_first lines voids void before after name end named ending a =
      subst (λ v. AreHeld (lines ++ line_of name end ∷ []) (voids ++ v) rest after) (sym named)
      (held_ended lines voids o rest spent.number before after name its (subst (λ l. AreHeld lines voids l before) is a) end ending)

-- it has no number
module _ (outcomes rest : List Outcome) (seat : ℕ) (why : IssueFault) (is : outcomes ≡ job.Unissued seat why ∷ rest) where
  pub owing_unissued : (ledger : LedgerView) (seats : List SeatView) → AreOwing ledger seats outcomes → AreOwing ledger seats rest
  owing_unissued ledger seats owing = record {
    all = owing.all;
    held = All-tail (IsOfSeats (length seats) ledger.terms.range.device) (job.Unissued seat why) rest (subst (All (IsOfSeats (length seats) ledger.terms.range.device)) is owing.held);
    owed = owed_unissued seats (job.Unissued seat why) rest seat why refl (subst (AreOwed seats) is owing.owed);
  }

  pub held_unissued : (lines : List FileLine) (voids : List ℕ) (operations : List Entry) → AreHeld lines voids outcomes operations → AreHeld lines voids rest operations
  held_unissued lines voids operations a = held_fewer lines voids (job.Unissued seat why) rest operations seat why refl (subst (λ l. AreHeld lines voids l operations) is a)

pub owing_as : (ledger : LedgerView) (seats : List SeatView) (os os' : List Outcome) → os ≡ os' → AreOwing ledger seats os → AreOwing ledger seats os'
owing_as ledger seats os os' is owing = subst (AreOwing ledger seats) is owing

-- new seats owe none
pub owing_none : (ledger : LedgerView) (seats : List SeatView) → operations_of seats ≡ [] → AreAllSeats ledger seats → AreOwing ledger seats []
owing_none ledger seats none all = record { all = all; held = All-nil (IsOfSeats (length seats) ledger.terms.range.device); owed = owed_none seats none }

-- ---- what the first seat does

-- all seats are still there
first_all : (ledger : LedgerView) (seats : List SeatView) (d w : SeatView) → 0 < length seats → IsSameSeat (get_or seats 0 d) w → AreAllSeats ledger seats → AreAllSeats ledger (set seats 0 w)
first_all ledger seats d w some same all = record {
  count = length-set seats 0 w ∙ all.count;
  each = λ i v at. dite (ℕ_discrete i 0)
      (λ zeroth.
      let now = get-set_here seats 0 w some in
      let there : slice_get (set seats 0 w) 0 ≡ Some v = ap (slice_get (set seats 0 w)) (sym zeroth) ∙ at in
      let is : v ≡ w = cc in
      let was = all.each 0 (get_or seats 0 d) (slice_get-get_or seats 0 d some) in
      (ap (λ (x : SeatView). x.ledger) is ∙ same.ledger ∙ was.0, ap (λ (x : SeatView). x.terms) is ∙ same.terms ∙ was.1, ap (λ (x : SeatView). x.number) is ∙ same.number ∙ was.2 ∙ sym zeroth))
      (λ apart. all.each i v (sym (get-set_else seats 0 i w apart) ∙ at));
}

-- a number was granted there
module _ (ledger : LedgerView) (seats : List SeatView) (d w : SeatView) (grant : GrantView) (some : 0 < length seats)
    (more : Extends (get_or seats 0 d) (Granted grant.number) w) where
  pub granted_held : (lines : List FileLine) (voids : List ℕ) → Accounts lines voids (operations_of seats)
      → AreHeld lines voids (job.Spoiled 0 (spent_as grant ended.Void) ∷ []) (operations_of (set seats 0 w))
  granted_held lines voids a =
      granted_counts lines voids grant (operations_of seats) (operations_of (set seats 0 w)) (counted_at seats 0 d w (Granted grant.number) some more) a

  pub granted_owing : IsSameSeat (get_or seats 0 d) w → grant.device ≡ (get_or seats 0 d).terms.range.device → AreOwing ledger seats []
      → AreOwing ledger (set seats 0 w) (job.Spoiled 0 (spent_as grant ended.Void) ∷ [])
  granted_owing same of owing = record {
    all = first_all ledger seats d w some same owing.all;
    held = All-cons (IsOfSeats (length (set seats 0 w)) ledger.terms.range.device) (job.Spoiled 0 (spent_as grant ended.Void)) []
        ((let long = length-set seats 0 w in omega arith), (of ∙ ap (λ (t : Terms). t.range.device) (owing.all.each 0 (get_or seats 0 d) (slice_get-get_or seats 0 d some)).1, refl))
        (All-nil (IsOfSeats (length (set seats 0 w)) ledger.terms.range.device));
    owed = record { each = λ i n v at. dite (ℕ_discrete i 0) (here i n v at) (other i n v at) };
  }
    where
      here : (i n : ℕ) (v : SeatView) → slice_get (set seats 0 w) i ≡ Some v → i ≡ 0 → times_settled n v.mine + count_by (holds n) (of_seat i (job.Spoiled 0 (spent_as grant ended.Void) ∷ [])) ≡ times_granted n v.mine
      here i n v at zeroth =
          let now = get-set_here seats 0 w some in
          let there : slice_get (set seats 0 w) 0 ≡ Some v = ap (slice_get (set seats 0 w)) (sym zeroth) ∙ at in
          let is : v ≡ w = cc in
          let before = owing.owed.each 0 n (get_or seats 0 d) (slice_get-get_or seats 0 d some) in
          let mine = ap (λ (x : SeatView). x.mine) is in
          let settled = ap (times_settled n) mine ∙ mine_counts (settles n) (get_or seats 0 d) w (Granted grant.number) more in
          let granted = ap (times_granted n) mine ∙ mine_counts (grants n) (get_or seats 0 d) w (Granted grant.number) more in
          let front = of_seat-cons n 0 (job.Spoiled 0 (spent_as grant ended.Void)) [] in
          let index : count_by (holds n) (of_seat i (job.Spoiled 0 (spent_as grant ended.Void) ∷ [])) ≡ count_by (holds n) (of_seat 0 (job.Spoiled 0 (spent_as grant ended.Void) ∷ [])) =
          ap (λ k. count_by (holds n) (of_seat k (job.Spoiled 0 (spent_as grant ended.Void) ∷ []))) zeroth in
          omega arith

      other : (i n : ℕ) (v : SeatView) → slice_get (set seats 0 w) i ≡ Some v → i ≢ 0 → times_settled n v.mine + count_by (holds n) (of_seat i (job.Spoiled 0 (spent_as grant ended.Void) ∷ [])) ≡ times_granted n v.mine
      other i n v at apart =
          let before = owing.owed.each i n v (sym (get-set_else seats 0 i w apart) ∙ at) in
          let front = of_seat-cons n i (job.Spoiled 0 (spent_as grant ended.Void)) [] in
          let miss : cond {A = ℕ} (nat_eq 0 i) (cond (nat_eq n grant.number) 1 0) 0 ≡ 0 = ap (λ b. cond {A = ℕ} b (cond (nat_eq n grant.number) 1 0) 0) (ne_eqb 0 i (λ is. apart (sym is))) in
          omega arith

-- none was
module _ (ledger : LedgerView) (seats : List SeatView) (d w : SeatView) (some : 0 < length seats) (how : (w ≡ get_or seats 0 d) ⊎ Extends (get_or seats 0 d) Exhausted w) where
  pub refused_owing : IsSameSeat (get_or seats 0 d) w → AreOwing ledger seats [] → AreOwing ledger (set seats 0 w) []
  refused_owing same owing = record {
    all = first_all ledger seats d w some same owing.all;
    held = All-nil (IsOfSeats (length (set seats 0 w)) ledger.terms.range.device);
    owed = record { each = λ i n v at. dite (ℕ_discrete i 0) (here i n v at) (λ apart. owing.owed.each i n v (sym (get-set_else seats 0 i w apart) ∙ at)) };
  }
    where
      here : (i n : ℕ) (v : SeatView) → slice_get (set seats 0 w) i ≡ Some v → i ≡ 0 → times_settled n v.mine + 0 ≡ times_granted n v.mine
      here i n v at zeroth =
          let now = get-set_here seats 0 w some in
          let there : slice_get (set seats 0 w) 0 ≡ Some v = ap (slice_get (set seats 0 w)) (sym zeroth) ∙ at in
          let is : v ≡ w = cc in
          let before = owing.owed.each 0 n (get_or seats 0 d) (slice_get-get_or seats 0 d some) in
          ⊎_elim
          (λ (kept : w ≡ get_or seats 0 d).
          let mine = ap (λ (x : SeatView). x.mine) (is ∙ kept) in
          let settled = ap (times_settled n) mine in
          let granted = ap (times_granted n) mine in
          omega arith)
          (λ (more : Extends (get_or seats 0 d) Exhausted w).
          let mine = ap (λ (x : SeatView). x.mine) is in
          let settled = ap (times_settled n) mine ∙ mine_counts (settles n) (get_or seats 0 d) w Exhausted more in
          let granted = ap (times_granted n) mine ∙ mine_counts (grants n) (get_or seats 0 d) w Exhausted more in
          omega arith)
          how

  pub refused_accounts_at : (lines : List FileLine) (voids : List ℕ) (name : List ℕ) (fault : FileFault) → Accounts lines voids (operations_of seats)
      → Accounts (lines ++ line_of name (Failed fault) ∷ []) (voids ++ []) (operations_of (set seats 0 w))
  refused_accounts_at lines voids name fault a = ⊎_elim
      (λ (kept : w ≡ get_or seats 0 d).
      subst (λ l. Accounts (lines ++ line_of name (Failed fault) ∷ []) (voids ++ []) (operations_of l)) (sym (unchanged seats 0 d w kept))
      (adds_failure lines voids (operations_of seats) name a fault))
      (λ (more : Extends (get_or seats 0 d) Exhausted w).
      exhausted_counts lines voids (operations_of seats) (operations_of (set seats 0 w)) name fault (counted_at seats 0 d w Exhausted some more) a)
      how

-- ---- what is settled

-- an issue settles nothing
pub issue_settles : (seats : List SeatView) (d w : SeatView) (number n : ℕ) → 0 < length seats → Extends (get_or seats 0 d) (Granted number) w
    → times_settled n (operations_of (set seats 0 w)) ≡ times_settled n (operations_of seats)
issue_settles seats d w number n some more = let (seat, count) = counted_at seats 0 d w (Granted number) some more in let s = count (settles n) in omega arith

pub refusal_settles : (seats : List SeatView) (d w : SeatView) (n : ℕ) → 0 < length seats → (w ≡ get_or seats 0 d) ⊎ Extends (get_or seats 0 d) Exhausted w
    → times_settled n (operations_of (set seats 0 w)) ≡ times_settled n (operations_of seats)
refusal_settles seats d w n some how = ⊎_elim
    (λ (kept : w ≡ get_or seats 0 d). ap (λ l. times_settled n (operations_of l)) (unchanged seats 0 d w kept))
    (λ (more : Extends (get_or seats 0 d) Exhausted w). let (seat, count) = counted_at seats 0 d w Exhausted some more in let s = count (settles n) in omega arith)
    how

-- an end is one settlement of its number
pub ending_counted : (number : ℕ) (operations operations' : List Entry) (outcome : FileOutcome) → IsEnding number operations operations' outcome
    → (way : Way) × IsCounted operations operations' (Settled number way)
ending_counted number operations operations' (Sealed m bytes) (same, how) = (ended.Sealed, how)
ending_counted number operations operations' (Opened bytes) how = (ended.Void, how)
ending_counted number operations operations' (Good bytes) how = (ended.Void, how)
ending_counted number operations operations' (Shown bytes facts) how = (ended.Void, how)
ending_counted number operations operations' (Failed fault) how = (ended.Void, how)

pub ending_settles : (n number : ℕ) (operations operations' : List Entry) (outcome : FileOutcome) → IsEnding number operations operations' outcome
    → times_settled n operations' ≡ times_settled n operations + cond (nat_eq n number) 1 0
ending_settles n number operations operations' outcome ending =
    let (way, (seat, count)) = ending_counted number operations operations' outcome ending in count (settles n)

-- ---- the one seat of a ledger

pub some_one : (n : ℕ) → n ≡ 1 → 0 < n
some_one n one = omega arith

pub one_mine : (seats : List SeatView) (w : SeatView) → length seats ≡ 1 → operations_of (set seats 0 w) ≡ w.mine
one_mine [] w one = absurd (omega arith)
one_mine (v ∷ []) w one = append-nil w.mine
one_mine (v ∷ u ∷ seats) w one = absurd (omega arith)

pub one_unsettled : (seats : List SeatView) (w : SeatView) (number : ℕ) → length seats ≡ 1 → times_settled number w.mine ≡ 0
    → times_settled number (operations_of (set seats 0 w)) ≡ 0
one_unsettled seats w number one none = ap (times_settled number) (one_mine seats w one) ∙ none
