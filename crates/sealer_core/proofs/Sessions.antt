-- Numbers that a seat owes: they were granted, and settled by no seat. And what a batch returns.
use Rattle.std.proofs.Common.{◌≡◌, ℕ, zero, suc, ◌<◌, ◌≤◌, Bool, cond, List, [], ◌∷◌, ◌++◌, length, map, count_by, refl, sym, ap, ◌∙◌, subst, arith, get_or, All, Some}
use Rattle.std.specs.Prelude.{slice_get}
use Rattle.std.proofs.lemmas.Option.{slice_get-get_or}
use Rattle.std.proofs.lemmas.List.Elements.{All-nil, All-tail}
use Rattle.std.proofs.lemmas.List.Sums.{sum_by-append}
use Rattle.journal_core.specs.declared.entry.Entry.{Entry}
use Rattle.journal_core.specs.History.{grants, settles, times_granted, times_settled}
use Rattle.container_core.specs.Shape.{ShapeView}
use Rattle.ledger_core.specs.Shared.{LedgerView, SeatView}
use Rattle.ledger_core.specs.Closing.{AreAllSeats, HaveMet}
use Rattle.ledger_core.proofs.Meetings.{whole_of_met}
use Rattle.crew_core.specs.Batch.{AreIssued, AreOutcomes, IsOutcome, of_seat}
use Rattle.crew_core.specs.declared.outcome.Outcome.{Outcome}
use Rattle.crew_core.specs.declared.outcome.Outcome.TheVariants as job
use Rattle.command_core.specs.Lines.{FileLine}
use Rattle.command_core.specs.declared.line.FileOutcome.{FileOutcome}
use Rattle.sealer_core.specs.declared.prepare.Prepared.{Prepared}
use Rattle.sealer_core.specs.declared.prepare.Prepared.TheVariants.{Refused, Unread, Read}
use Rattle.sealer_core.specs.Group.{AreGrantedOnce, AreHeld, AreOwing, IsContainerUnder, IsEnding, IsOfSeats, OwesAt, left_by}
use Rattle.sealer_core.specs.Sealing.{operations_of}
use Rattle.sealer_core.proofs.Groups.{grown, issues_settles}
use Rattle.sealer_core.proofs.Numbering.{granted_once, same_count, sum_below_zeros}
use Rattle.sealer_core.proofs.Owing.{ending_counted}

-- ---- a number that is held

module _ (p q : Entry → Bool) where
  abbrev Each : List SeatView → Type 0
  Each seats = (i : ℕ) (v : SeatView) → slice_get seats i ≡ Some v → count_by p v.mine ≤ count_by q v.mine

  few : (seats : List SeatView) → Each seats → count_by p (operations_of seats) ≤ count_by q (operations_of seats)
  few [] each = omega arith
  few (w ∷ seats) each =
      let here = each 0 w refl in
      let rest = few seats (λ i v at. each (suc i) v at) in
      let one = sum_by-append (λ (x : Entry). cond (p x) 1 0) w.mine (operations_of seats) in
      let other = sum_by-append (λ (x : Entry). cond (q x) 1 0) w.mine (operations_of seats) in omega arith

  fewer : (seats : List SeatView) (place : ℕ) → Each seats → place < length seats
      → ((v : SeatView) → slice_get seats place ≡ Some v → count_by p v.mine < count_by q v.mine)
      → count_by p (operations_of seats) < count_by q (operations_of seats)
  fewer [] place each below less = absurd (omega arith)
  fewer (w ∷ seats) zero each below less =
      let here = less w refl in
      let rest = few seats (λ i v at. each (suc i) v at) in
      let one = sum_by-append (λ (x : Entry). cond (p x) 1 0) w.mine (operations_of seats) in
      let other = sum_by-append (λ (x : Entry). cond (q x) 1 0) w.mine (operations_of seats) in omega arith
  fewer (w ∷ seats) (suc place) each below less =
      let here = each 0 w refl in
      let rest = fewer seats place (λ i v at. each (suc i) v at) (omega arith) less in
      let one = sum_by-append (λ (x : Entry). cond (p x) 1 0) w.mine (operations_of seats) in
      let other = sum_by-append (λ (x : Entry). cond (q x) 1 0) w.mine (operations_of seats) in omega arith

-- A number that a seat owes was granted. If none was granted twice, nobody settled it.
module _ (ledger : LedgerView) (seats : List SeatView) (outcomes : List Outcome) (place device number : ℕ) (owing : AreOwing ledger seats outcomes)
    (owes : OwesAt ledger seats place device number) where
  owed_less : times_settled number (operations_of seats) < times_granted number (operations_of seats)
  owed_less = fewer (settles number) (grants number) seats place
      (λ i v at. let has = owing.owed.each i number v at in omega arith) owes.0 owes.2

  pub owed_unsettled : AreGrantedOnce (operations_of seats) → times_settled number (operations_of seats) ≡ 0
  owed_unsettled once = let less = owed_less in let most = once.once number in omega arith

-- ---- seats that have met

-- they did nothing
pub met_mine : (old new : List SeatView) (history : List Entry) → HaveMet old new history
    → map (λ (seat : SeatView). seat.mine) new ≡ map (λ (seat : SeatView). seat.mine) old
met_mine old new history met = go old new met.count (λ i v at. let s = met.after i v at in (s.0, s.1, ap (λ (x : SeatView). x.mine) s.2.1))
  where
    go : (old new : List SeatView) → length new ≡ length old
        → ((i : ℕ) (v : SeatView) → slice_get old i ≡ Some v → (w : SeatView) × (slice_get new i ≡ Some w) × (w.mine ≡ v.mine))
        → map (λ (seat : SeatView). seat.mine) new ≡ map (λ (seat : SeatView). seat.mine) old
    go [] [] long each = refl
    go [] (w ∷ new) long each = absurd (omega arith)
    go (v ∷ old) [] long each = absurd (omega arith)
    go (v ∷ old) (w ∷ new) long each =
        let (u, at, mine) = each 0 v refl in
        let same : w ≡ u = cc in
        let rest = go old new (omega arith) (λ i x there. each (suc i) x there) in
        λ k. (ap (λ (x : SeatView). x.mine) same ∙ mine) k ∷ rest k

pub met_operations : (old new : List SeatView) → map (λ (seat : SeatView). seat.mine) new ≡ map (λ (seat : SeatView). seat.mine) old → operations_of new ≡ operations_of old
met_operations old new same = sym (joined new) ∙ ap join same ∙ joined old
  where
    join : List (List Entry) → List Entry
    join [] = []
    join (l ∷ ls) = l ++ join ls

    joined : (seats : List SeatView) → join (map (λ (seat : SeatView). seat.mine) seats) ≡ operations_of seats
    joined [] = refl
    joined (v ∷ seats) = ap (λ l. v.mine ++ l) (joined seats)

pub held_met : (lines : List FileLine) (voids : List ℕ) (outcomes : List Outcome) (old new : List SeatView) → map (λ (seat : SeatView). seat.mine) new ≡ map (λ (seat : SeatView). seat.mine) old
    → AreHeld lines voids outcomes (operations_of old) → AreHeld lines voids outcomes (operations_of new)
held_met lines voids outcomes old new same held = subst (AreHeld lines voids outcomes) (sym (met_operations old new same)) held

-- and were granted no number twice
pub met_once : (ledger : LedgerView) (old new : List SeatView) (history : List Entry) → AreAllSeats ledger old → HaveMet old new history → AreGrantedOnce (operations_of new)
met_once ledger old new history all met =
    let (whole, is) = whole_of_met ledger old new history all met in
    let same = met_operations old new (met_mine old new history met) in record {
      once = λ n.
          let most = (granted_once ledger.terms whole is.legal n).0 in
          let count = same_count (grants n) ledger.terms ledger old whole all refl is in
          let also = ap (times_granted n) same in omega arith;
    }

mine_at : (old new : List SeatView) (i : ℕ) (w : SeatView) → map (λ (seat : SeatView). seat.mine) new ≡ map (λ (seat : SeatView). seat.mine) old → slice_get new i ≡ Some w
    → (v : SeatView) × (slice_get old i ≡ Some v) × (v.mine ≡ w.mine)
mine_at old [] i w same at = absurd (cc)
mine_at [] (x ∷ new) i w same at = absurd (cc)
mine_at (v ∷ old) (x ∷ new) zero w same at = (v, refl, cc)
mine_at (v ∷ old) (x ∷ new) (suc i) w same at = mine_at old new i w (cc) at

-- they owe what they owed
pub owing_met : (ledger : LedgerView) (old new : List SeatView) (outcomes : List Outcome) → map (λ (seat : SeatView). seat.mine) new ≡ map (λ (seat : SeatView). seat.mine) old → length new ≡ length old
    → AreAllSeats ledger new → AreOwing ledger old outcomes → AreOwing ledger new outcomes
owing_met ledger old new outcomes same long all owing = record {
  all = all;
  held = subst (λ n. All (IsOfSeats n ledger.terms.range.device) outcomes) (sym long) owing.held;
  owed = record {
    each = λ i number w at.
        let (v, there, mine) = mine_at old new i w same at in
        let has = owing.owed.each i number v there in
        let settled = ap (times_settled number) mine in
        let granted = ap (times_granted number) mine in omega arith;
  };
}

-- ---- numbers that are settled, or granted

-- an end grants nothing
pub once_ended : (number : ℕ) (operations operations' : List Entry) (outcome : FileOutcome) → IsEnding number operations operations' outcome
    → AreGrantedOnce operations → AreGrantedOnce operations'
once_ended number operations operations' outcome ending a =
    let (way, (seat, count)) = ending_counted number operations operations' outcome ending in
    record { once = λ n. let same = count (grants n) in let most = a.once n in omega arith }

-- ---- outcomes

pub none_under : (key : List ℕ) (shape : ShapeView) (outcomes : List Outcome) → outcomes ≡ [] → All (IsContainerUnder key shape) outcomes
none_under key shape outcomes none = subst (All (IsContainerUnder key shape)) (sym none) (All-nil (IsContainerUnder key shape))

-- what a batch returns are such
pub containers_of : (key : List ℕ) (shape : ShapeView) (jobs : List (List ℕ)) (outcomes : List Outcome) → AreOutcomes key shape jobs outcomes → All (IsContainerUnder key shape) outcomes
containers_of key shape jobs outcomes are = λ i d below.
    let at = slice_get-get_or outcomes i d below in
    let count = are.count in
    go (get_or outcomes i d) (get_or jobs i []) (are.each i (get_or jobs i []) (get_or outcomes i d) (slice_get-get_or jobs i [] (omega arith)) at)
  where
    go : (o : Outcome) (j : List ℕ) → IsOutcome key shape j o → IsContainerUnder key shape o
    go (job.Sealed seat bytes spent) j is = (j, is.0)
    go (job.Spoiled seat spent) j is = tt
    go (job.Unissued seat fault) j is = tt

-- a batch settles nothing
pub batch_settles : (old new : List SeatView) (os : List Outcome) (n : ℕ) → length new ≡ length old → AreIssued old new os
    → times_settled n (operations_of new) ≡ times_settled n (operations_of old)
batch_settles old new os n long issued =
    let s = grown (settles n) (λ _. 0) (λ t l. issues_settles n t l) (λ i. of_seat i os) old new long issued in
    let z = sum_below_zeros (length old) in omega arith

pub containers_left : {W : Type 0} (P : Outcome → Type 0) (file : Prepared W) (outcomes outcomes' : List Outcome) → outcomes' ≡ left_by file outcomes → All P outcomes → All P outcomes'
containers_left P file outcomes outcomes' next all = subst (All P) (sym next) (go file outcomes all)
  where
    go : {W : Type 0} (file : Prepared W) (outcomes : List Outcome) → All P outcomes → All P (left_by file outcomes)
    go (Refused name fault) outcomes all = all
    go (Unread name writer fault) outcomes all = all
    go (Read name writer bytes) [] all = all
    go (Read name writer bytes) (o ∷ outcomes) all = All-tail P o outcomes all
