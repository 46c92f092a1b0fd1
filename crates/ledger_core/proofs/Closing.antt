-- The seats' logs, put together, are the history. Each record's entry goes to its index. The history has exactly each
-- seat's own operations, so one record writes each entry, and there are as many records as entries.
use Rattle.std.proofs.Common.{◌≡◌, ◌≢◌, ℕ, zero, suc, ◌+◌, ◌<◌, ◌≤◌, Bool, true, false, cond, nat_eq, List, [], ◌∷◌, ◌++◌, map, length, get_or, set, take, refl, sym, ap, ◌∙◌, subst, arith, eq-eqb, ne_eqb, ⊎_elim, inl, inr, ◌⊎◌}
use mathlib.Core.Logic.{dite}
use native.Mathlib.Decide.{ℕ_discrete}
use Rattle.std.specs.Prelude.{Some, slice_get}
use Rattle.std.proofs.lemmas.List.{length-set, take_more, take_all}
use Rattle.std.proofs.lemmas.List.Sums.{sum_by-cons}
use Rattle.std.proofs.lemmas.Option.{slice_get_within}
use Rattle.journal_core.specs.declared.entry.Entry.{Entry}
use Rattle.ledger_core.specs.declared.table.Record.{Record}
use Rattle.journal_core.specs.declared.terms.Terms.{Terms}
use Rattle.journal_core.specs.History.{IsLawful, Legal, calls_of}
use Rattle.ledger_core.specs.Rule.{Mine}
use Rattle.ledger_core.specs.Logs.{places_from, recorded, place_in, IsSeat}
use Rattle.ledger_core.specs.Shared.{LedgerId, LedgerView, SeatView, seat_view, Sees}
use Rattle.ledger_core.specs.Closing.{AreAllSeats, HasSeat, IsWhole, HaveMet}
use Rattle.ledger_core.specs.Placing.{written, PlacesSeat, PlacesEach, HasNumber, ArePlaced, operations_in}
use Rattle.journal_core.proofs.Histories.{legal_front}
use Rattle.ledger_core.proofs.Seats.{places_kept}
use Rattle.ledger_core.proofs.Meetings.{get-set_here, get-set_else, some_at, same_at}

-- the entries of seat t, written one by one from index n on
abbrev stamped : ℕ → ℕ → List Entry → List Entry → List Entry
stamped n t [] es = es
stamped n t (e ∷ rest) es = stamped (n + 1) t rest (cond (nat_eq e.seat t) (set es n e) es)

written_stamped : (n t : ℕ) (history : List Entry) (records : List Record) (es : List Entry) → map recorded records ≡ calls_of t history → map place_in records ≡ places_from n t history → written records es ≡ stamped n t history es
written_stamped n t [] [] es a b = refl
written_stamped n t [] (r ∷ rs) es a b = absurd (cc)
written_stamped n t (e ∷ rest) records es a b = go (nat_eq e.seat t) records a b (written_stamped (n + 1) t rest)
  where
    go : (q : Bool) (rs : List Record) → map recorded rs ≡ cond q (e ∷ calls_of t rest) (calls_of t rest) → map place_in rs ≡ cond q (n ∷ places_from (n + 1) t rest) (places_from (n + 1) t rest)
        → ((xs : List Record) (ys : List Entry) → map recorded xs ≡ calls_of t rest → map place_in xs ≡ places_from (n + 1) t rest → written xs ys ≡ stamped (n + 1) t rest ys)
        → written rs es ≡ stamped (n + 1) t rest (cond q (set es n e) es)
    go true [] a b r = absurd (cc)
    go true (x ∷ xs) a b r =
        let first : x.entry ≡ e = cc in
        let place : x.place ≡ n = cc in
        r xs (set es x.place x.entry) (cc) (cc) ∙ (λ i. stamped (n + 1) t rest (set es (place i) (first i)))
    go false rs a b r = r rs es a b

put_length : (q : Bool) (es : List Entry) (n : ℕ) (e : Entry) → length (cond q (set es n e) es) ≡ length es
put_length true es n e = length-set es n e
put_length false es n e = refl

put_else : (q : Bool) (es : List Entry) (n p : ℕ) (e : Entry) → p ≢ n → slice_get (cond q (set es n e) es) p ≡ slice_get es p
put_else true es n p e other = get-set_else es n p e other
put_else false es n p e other = refl

stamped_length : (n t : ℕ) (history es : List Entry) → length (stamped n t history es) ≡ length es
stamped_length n t [] es = refl
stamped_length n t (e ∷ rest) es = stamped_length (n + 1) t rest (cond (nat_eq e.seat t) (set es n e) es) ∙ put_length (nat_eq e.seat t) es n e

stamped_before : (n t : ℕ) (history es : List Entry) (p : ℕ) → p < n → slice_get (stamped n t history es) p ≡ slice_get es p
stamped_before n t [] es p h = refl
stamped_before n t (e ∷ rest) es p h = stamped_before (n + 1) t rest (cond (nat_eq e.seat t) (set es n e) es) p (omega arith) ∙ put_else (nat_eq e.seat t) es n p e (λ is. omega arith)

stamped_here : (n t : ℕ) (history es : List Entry) (j p : ℕ) (e : Entry) → slice_get history j ≡ Some e → p ≡ n + j → e.seat ≡ t → p < length es → slice_get (stamped n t history es) p ≡ Some e
stamped_here n t [] es j p e at is mine room = absurd (cc)
stamped_here n t (x ∷ rest) es zero p e at is mine room =
    let same : x ≡ e = cc in
    let here : p ≡ n = omega arith in
    stamped_before (n + 1) t rest (cond (nat_eq x.seat t) (set es n x) es) p (omega arith)
    ∙ ap (λ q. slice_get (cond q (set es n x) es) p) (eq-eqb x.seat t (ap (λ (z : Entry). z.seat) same ∙ mine))
    ∙ ap (λ (m : ℕ). slice_get (set es n x) m) here
    ∙ get-set_here es n x (omega arith)
    ∙ ap (λ (z : Entry). Some z) same
stamped_here n t (x ∷ rest) es (suc j) p e at is mine room =
    stamped_here (n + 1) t rest (cond (nat_eq x.seat t) (set es n x) es) j p e at (omega arith) mine (let l = put_length (nat_eq x.seat t) es n x in omega arith)

stamped_other : (n t : ℕ) (history es : List Entry) (j p : ℕ) (e : Entry) → slice_get history j ≡ Some e → p ≡ n + j → e.seat ≢ t → slice_get (stamped n t history es) p ≡ slice_get es p
stamped_other n t [] es j p e at is other = absurd (cc)
stamped_other n t (x ∷ rest) es zero p e at is other =
    let same : x ≡ e = cc in
    stamped_before (n + 1) t rest (cond (nat_eq x.seat t) (set es n x) es) p (omega arith)
    ∙ ap (λ q. slice_get (cond q (set es n x) es) p) (ne_eqb x.seat t (λ m. other (sym (ap (λ (z : Entry). z.seat) same) ∙ m)))
stamped_other n t (x ∷ rest) es (suc j) p e at is other =
    stamped_other (n + 1) t rest (cond (nat_eq x.seat t) (set es n x) es) j p e at (omega arith) other ∙ put_else (nat_eq x.seat t) es n p x (λ m. omega arith)

-- one seat after another

get-append : (l m : List SeatView) (i : ℕ) (v : SeatView) → slice_get l i ≡ Some v → slice_get (l ++ m) i ≡ Some v
get-append [] m i v e = absurd (cc)
get-append (x ∷ xs) m zero v e = e
get-append (x ∷ xs) m (suc i) v e = get-append xs m i v e

get-last : (l : List SeatView) (v : SeatView) → slice_get (l ++ v ∷ []) (length l) ≡ Some v
get-last [] v = refl
get-last (x ∷ xs) v = get-last xs v

get-snoc : (l : List SeatView) (v w : SeatView) (i : ℕ) → slice_get (l ++ v ∷ []) i ≡ Some w → (slice_get l i ≡ Some w) ⊎ (v ≡ w)
get-snoc [] v w zero e = inr (cc)
get-snoc [] v w (suc i) e = absurd (cc)
get-snoc (x ∷ xs) v w zero e = inl e
get-snoc (x ∷ xs) v w (suc i) e = get-snoc xs v w i e

pub placed_none : (entries : List Entry) → ArePlaced [] entries
placed_none entries history places p e at room has = absurd (let x = has.2 in cc)

-- one more seat
placed_more : (seats : List SeatView) (v : SeatView) (records : List Record) (entries : List Entry)
    → map recorded records ≡ v.mine → map place_in records ≡ places_from 0 v.number v.seen → ArePlaced seats entries → ArePlaced (seats ++ v ∷ []) (written records entries)
placed_more seats v records entries are stand placed history places p e at room has =
    let f = places (length seats) v (get-last seats v) in
    let is : written records entries ≡ stamped 0 v.number history entries = written_stamped 0 v.number history records entries (are ∙ sym f.own) (stand ∙ sym f.places) in
    let size : length (written records entries) ≡ length entries = ap length is ∙ stamped_length 0 v.number history entries in
    let there : p ≡ 0 + p = omega arith in
    ap (λ (l : List Entry). slice_get l p) is
    ∙ dite (ℕ_discrete e.seat v.number)
    (λ mine. stamped_here 0 v.number history entries p p e at there mine (omega arith))
    (λ other. stamped_other 0 v.number history entries p p e at there other ∙ placed history (λ i w a. places i w (get-append seats (v ∷ []) i w a)) p e at (omega arith) (earlier has other))
  where
    earlier : HasNumber (seats ++ v ∷ []) e.seat → e.seat ≢ v.number → HasNumber seats e.seat
    earlier has other = ⊎_elim (λ (a : slice_get seats has.0 ≡ Some has.1). (has.0, has.1, a, has.3)) (λ (is : v ≡ has.1). absurd (other (sym has.3 ∙ sym (ap (λ (z : SeatView). z.number) is)))) (get-snoc seats v has.1 has.0 has.2)

written_length : (records : List Record) (es : List Entry) → length (written records es) ≡ length es
written_length [] es = refl
written_length (r ∷ rs) es = written_length rs (set es r.place r.entry) ∙ length-set es r.place r.entry

-- the next seat
pub placed_next : (seats : List SeatView) (at : ℕ) (v : SeatView) (z : LedgerId) (k : Terms) (t : ℕ) (closed : Bool) (log : List Record) (held : List Bool) (me : Mine) (entries after : List Entry)
    → IsSeat k t closed log held me → seat_view z k t me.0.seen me.0.mine ≡ get_or seats at v → at < length seats → ArePlaced (take at seats) entries → after ≡ written log entries
    → (length after ≡ length entries) × ArePlaced (take (at + 1) seats) after
placed_next seats at v z k t closed log held me entries after s is inside placed wrote =
    let x : SeatView = seat_view z k t me.0.seen me.0.mine in
    let longer : take (at + 1) seats ≡ take at seats ++ x ∷ [] = take_more seats at v inside ∙ ap (λ (y : SeatView). take at seats ++ y ∷ []) (sym is) in (
      ap length wrote ∙ written_length log entries,
      subst (λ (l : List SeatView). ArePlaced l after) (sym longer) (subst (ArePlaced (take at seats ++ x ∷ [])) (sym wrote) (placed_more (take at seats) x log entries s.entries s.places placed)),
    )

pub placed_all : (seats : List SeatView) (at : ℕ) (entries : List Entry) → length seats ≤ at → ArePlaced (take at seats) entries → ArePlaced seats entries
placed_all seats at entries end placed = subst (λ (l : List SeatView). ArePlaced l entries) (take_all at seats end) placed

-- all entries are of the seats
abbrev total : ℕ → (ℕ → ℕ) → ℕ
total zero f = 0
total (suc n) f = f n + total n f

total_same : (n : ℕ) (f g : ℕ → ℕ) → ((t : ℕ) → t < n → f t ≡ g t) → total n f ≡ total n g
total_same zero f g h = refl
total_same (suc n) f g h = let a = h n (omega arith) in let b = total_same n f g (λ t l. h t (omega arith)) in omega arith

total_zero : (n : ℕ) → total n (λ t. 0) ≡ 0
total_zero zero = refl
total_zero (suc n) = let r = total_zero n in omega arith

total_more : (n u : ℕ) (f g : ℕ → ℕ) → u < n → f u ≡ 1 + g u → ((t : ℕ) → t ≢ u → f t ≡ g t) → total n f ≡ 1 + total n g
total_more zero u f g h one same = absurd (omega arith)
total_more (suc n) u f g h one same = dite (ℕ_discrete n u)
    (λ is. let a : f n ≡ 1 + g n = subst (λ (z : ℕ). f z ≡ 1 + g z) (sym is) one in let b = total_same n f g (λ t l. same t (λ e. omega arith)) in omega arith)
    (λ other. let a = same n other in let b = total_more n u f g (omega arith) one same in omega arith)

lengths : (n : ℕ) (history : List Entry) → ((j : ℕ) (e : Entry) → slice_get history j ≡ Some e → e.seat < n) → length history ≡ total n (λ t. length (calls_of t history))
lengths n [] inside = sym (total_zero n)
lengths n (x ∷ xs) inside =
    let r = lengths n xs (λ j e at. inside (suc j) e at) in
    let m = total_more n x.seat (λ t. length (calls_of t (x ∷ xs))) (λ t. length (calls_of t xs)) (inside 0 x refl)
    (ap (λ b. length (cond b (x ∷ calls_of x.seat xs) (calls_of x.seat xs))) (eq-eqb x.seat x.seat refl) ∙ omega arith)
    (λ t other. ap (λ b. length (cond b (x ∷ calls_of t xs) (calls_of t xs))) (ne_eqb x.seat t (λ e. other (sym e)))) in omega arith

total_front : (n : ℕ) (f : ℕ → ℕ) → total (suc n) f ≡ f 0 + total n (λ t. f (suc t))
total_front zero f = refl
total_front (suc n) f = let r = total_front n f in omega arith

sums : (seats : List SeatView) (f : ℕ → ℕ) → ((i : ℕ) (v : SeatView) → slice_get seats i ≡ Some v → length v.mine ≡ f i) → operations_in seats ≡ total (length seats) f
sums [] f each = refl
sums (v ∷ vs) f each =
    let r = sums vs (λ t. f (suc t)) (λ i w at. each (suc i) w at) in
    let h = each 0 v refl in
    let t = total_front (length vs) f in
    sum_by-cons (λ w. length w.mine) v vs ∙ (let a : length v.mine + operations_in vs ≡ f 0 + total (length vs) (λ t. f (suc t)) = omega arith in a) ∙ sym t

split_at : (history : List Entry) (j : ℕ) (e : Entry) → slice_get history j ≡ Some e → (before : List Entry) × ((behind : List Entry) × (history ≡ before ++ e ∷ behind))
split_at [] j e at = absurd (cc)
split_at (x ∷ xs) zero e at = let same : x ≡ e = cc in ([], (xs, λ i. same i ∷ xs))
split_at (x ∷ xs) (suc j) e at = let r = split_at xs j e at in (x ∷ r.0, (r.1.0, ap (λ l. x ∷ l) r.1.1))

inside : (k : Terms) (history : List Entry) → Legal k history → (j : ℕ) (e : Entry) → slice_get history j ≡ Some e → e.seat < k.seats
inside k history legal j e at = let s = split_at history j e at in (legal s.0 e s.1.0 s.1.1).seat

same_lists : (xs ys : List Entry) → length ys ≡ length xs → ((p : ℕ) (e : Entry) → slice_get xs p ≡ Some e → slice_get ys p ≡ Some e) → ys ≡ xs
same_lists [] [] size h = refl
same_lists [] (y ∷ ys) size h = absurd (omega arith)
same_lists (x ∷ xs) [] size h = absurd (omega arith)
same_lists (x ∷ xs) (y ∷ ys) size h =
    let both : Some y ≡ Some x = h 0 x refl in
    let first : y ≡ x = cc in
    λ i. first i ∷ same_lists xs ys (omega arith) (λ p e at. h (suc p) e at) i

-- a seat that has met the others has its operations at the indexes at which the history has them
placed_seat : (history : List Entry) (v w : SeatView) → HasSeat history v → Sees v w → Rattle.ledger_core.specs.Shared.Knows w → Rattle.journal_core.specs.History.Begins history w.seen → PlacesSeat history w
placed_seat history v w has sees knows begins =
    let own : calls_of w.number history ≡ w.mine = ap (λ (z : SeatView). calls_of z.number history) sees.1 ∙ has.own ∙ sym (ap (λ (z : SeatView). z.mine) sees.1) in
    record { own = own; places = sym (places_kept w.number history w.seen begins (own ∙ sym knows.own)) }

-- the entries, put together, are the history
pub closes : (ledger : LedgerView) (old new : List SeatView) (history entries : List Entry) → IsLawful ledger.terms → AreAllSeats ledger old → HaveMet old new history → ArePlaced new entries
    → length entries ≡ operations_in old → IsWhole ledger.terms old entries
closes ledger old new history entries lawful all met placed size =
    let k : Terms = ledger.terms in
    let some_seats = lawful.some_seats in
    let count = all.count in
    let first = some_at old 0 (omega arith) in
    let its = met.after 0 first.0 first.1 in
    let terms : its.0.terms ≡ k = ap (λ (z : SeatView). z.terms) its.2.1 ∙ (all.each 0 first.0 first.1).1 in
    let legal : Legal k history = legal_front k history its.4.0 (subst (Legal k) its.4.1 (subst (λ (z : Terms). Legal z its.0.seen) terms its.3.legal)) in
    let f : ℕ → ℕ = λ t. length (calls_of t history) in
    let a : length history ≡ total k.seats f = lengths k.seats history (inside k history legal) in
    let b : operations_in old ≡ total (length old) f = sums old f (λ i v at. ap length (sym (met.before i v at).own) ∙ ap f (all.each i v at).2) in
    let c : total (length old) f ≡ total k.seats f = ap (λ n. total n f) all.count in
    let same : length entries ≡ length history = size ∙ b ∙ c ∙ sym a in
    let is : entries ≡ history = same_lists history entries same
    (λ p e at.
    let room = slice_get_within history p e at in
    let v = some_at old e.seat (let i = inside k history legal p e at in omega arith) in
    let w = met.after e.seat v.0 v.1 in
    placed history places p e at (omega arith) (e.seat, w.0, w.1, ap (λ (z : SeatView). z.number) w.2.1 ∙ (all.each e.seat v.0 v.1).2)) in
    subst (IsWhole k old) (sym is) record { legal = legal; each = met.before }
  where
    places : PlacesEach new history
    places i w at =
        let v = some_at old i (let h = slice_get_within new i w at in let c = met.count in omega arith) in
        let x = met.after i v.0 v.1 in
        subst (PlacesSeat history) (same_at new i x.0 w x.1 at) (placed_seat history v.0 x.0 (met.before i v.0 v.1) x.2 x.3 x.4)
