-- For the crates above: all seats of a ledger stay all of its seats through its calls.
use Rattle.std.proofs.Common.{◌≡◌, ◌⊎◌, ℕ, zero, suc, ◌<◌, List, [], ◌∷◌, ◌++◌, length, get_or, set, refl, sym, ap, ◌∙◌, subst, inl, inr, ⊎_elim, arith, length-append}
use mathlib.Core.Logic.{dite}
use native.Mathlib.Decide.{ℕ_discrete}
use Rattle.std.specs.Prelude.{Some, slice_get}
use Rattle.std.proofs.lemmas.List.{length-set}
use Rattle.std.proofs.lemmas.Option.{slice_get_within, slice_get-get_or}
use Rattle.ledger_core.specs.Shared.{LedgerId, LedgerView, SeatView, fresh_seat, fresh_seats, IsSameSeat, Sees}
use Rattle.ledger_core.specs.Closing.{AreAllSeats, HaveMet}
use Rattle.journal_core.specs.declared.entry.Entry.{Entry}
use Rattle.journal_core.specs.declared.terms.Terms.{Terms}
use Rattle.ledger_core.proofs.Meetings.{get-set_here, get-set_else, some_at, same_at}

at_snoc : (l : List SeatView) (v w : SeatView) (i : ℕ) → slice_get (l ++ v ∷ []) i ≡ Some w → ((slice_get l i ≡ Some w) × (i < length l)) ⊎ ((v ≡ w) × (i ≡ length l))
at_snoc [] v w zero at = inr (cc, refl)
at_snoc [] v w (suc i) at = absurd (cc)
at_snoc (y ∷ ys) v w zero at = inl (at, omega arith)
at_snoc (y ∷ ys) v w (suc i) at =
    ⊎_elim (λ (h : (slice_get ys i ≡ Some w) × (i < length ys)). let a = h.1 in inl (h.0, omega arith)) (λ (h : (v ≡ w) × (i ≡ length ys)). let a = h.1 in inr (h.0, omega arith)) (at_snoc ys v w i at)

count_fresh : (z : LedgerId) (k : Terms) (n : ℕ) → length (fresh_seats z k n) ≡ n
count_fresh z k zero = refl
count_fresh z k (suc n) = let r = count_fresh z k n in omega (arith, length-append (fresh_seats z k n) (fresh_seat z k n ∷ []))

each_fresh : (z : LedgerId) (k : Terms) (n i : ℕ) (v : SeatView) → slice_get (fresh_seats z k n) i ≡ Some v → v ≡ fresh_seat z k i
each_fresh z k zero i v at = absurd (cc)
each_fresh z k (suc n) i v at =
    ⊎_elim
    (λ (h : (slice_get (fresh_seats z k n) i ≡ Some v) × (i < length (fresh_seats z k n))). each_fresh z k n i v h.0)
    (λ (h : (fresh_seat z k n ≡ v) × (i ≡ length (fresh_seats z k n))). sym h.0 ∙ ap (fresh_seat z k) (sym (h.1 ∙ count_fresh z k n)))
    (at_snoc (fresh_seats z k n) (fresh_seat z k n) v i at)

-- the seats of a new ledger
pub all_fresh : (ledger : LedgerView) (seats : List SeatView) → seats ≡ fresh_seats ledger.ledger ledger.terms ledger.terms.seats → AreAllSeats ledger seats
all_fresh ledger seats is = subst (AreAllSeats ledger) (sym is) record {
  count = count_fresh ledger.ledger ledger.terms ledger.terms.seats;
  each = λ i v at.
      let same = each_fresh ledger.ledger ledger.terms ledger.terms.seats i v at in
      (ap (λ (z : SeatView). z.ledger) same, ap (λ (z : SeatView). z.terms) same, ap (λ (z : SeatView). z.number) same);
}

-- a call at one of them
pub all_after : (ledger : LedgerView) (seats : List SeatView) (at : ℕ) (v w : SeatView) → AreAllSeats ledger seats → at < length seats → v ≡ get_or seats at v → IsSameSeat v w → AreAllSeats ledger (set seats at w)
all_after ledger seats at v w all inside is same = record {
  count = length-set seats at w ∙ all.count;
  each = λ i x there. dite (ℕ_discrete i at)
      (λ here.
      let new : w ≡ x = same_at (set seats at w) at w x (get-set_here seats at w inside) (ap (slice_get (set seats at w)) (sym here) ∙ there) in
      let old = all.each at v (slice_get-get_or seats at v inside ∙ ap (λ (z : SeatView). Some z) (sym is)) in
      subst (λ (z : SeatView). (z.ledger ≡ ledger.ledger) × (z.terms ≡ ledger.terms) × (z.number ≡ i)) new (same.ledger ∙ old.0, same.terms ∙ old.1, same.number ∙ old.2 ∙ sym here))
      (λ other. all.each i x (sym (get-set_else seats at i w other) ∙ there));
}

-- calls at each of them
pub all_after_each : (ledger : LedgerView) (old new : List SeatView) → AreAllSeats ledger old → length new ≡ length old
    → ((i : ℕ) (d : SeatView) → i < length old → IsSameSeat (get_or old i d) (get_or new i d)) → AreAllSeats ledger new
all_after_each ledger old new all count same = record {
  count = count ∙ all.count;
  each = λ i x there.
      let within = slice_get_within new i x there in
      let inside : i < length old = omega arith in
      let v = some_at old i inside in
      let was = all.each i v.0 v.1 in
      let its : get_or old i x ≡ v.0 = same_at old i (get_or old i x) v.0 (slice_get-get_or old i x inside) v.1 in
      let now : get_or new i x ≡ x = same_at new i (get_or new i x) x (slice_get-get_or new i x within) there in
      let s : IsSameSeat v.0 x = subst (λ (z : SeatView × SeatView). IsSameSeat z.0 z.1) (λ j. (its j, now j)) (same i x inside) in
      (s.ledger ∙ was.0, s.terms ∙ was.1, s.number ∙ was.2);
}

-- a look leaves the seat the same
pub same_of : (v w : SeatView) → Sees v w → IsSameSeat v w
same_of v w s = record { ledger = ap (λ (z : SeatView). z.ledger) s.1; terms = ap (λ (z : SeatView). z.terms) s.1; number = ap (λ (z : SeatView). z.number) s.1 }

-- a meeting of all of them
pub all_met : (ledger : LedgerView) (old new : List SeatView) (history : List Entry) → AreAllSeats ledger old → HaveMet old new history → AreAllSeats ledger new
all_met ledger old new history all met = record {
  count = met.count ∙ all.count;
  each = λ i x there.
      let inside = slice_get_within new i x there in
      let count = met.count in
      let v = some_at old i (omega arith) in
      let was = all.each i v.0 v.1 in
      let now = met.after i v.0 v.1 in
      let s = same_of v.0 x (subst (λ (z : SeatView). Sees v.0 z) (same_at new i now.0 x now.1 there) now.2) in
      (s.ledger ∙ was.0, s.terms ∙ was.1, s.number ∙ was.2);
}
