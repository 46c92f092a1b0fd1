-- A note goes round the seats. What it shows after the first round is the history of all. It shows no less: each seat
-- added what it had seen, with its own operations. It shows no more: each seat has seen it in the second round, and has
-- seen only those of its own operations that it made.
use Rattle.std.proofs.Common.{◌≡◌, ◌≢◌, ℕ, zero, suc, ◌+◌, ◌<◌, ◌≤◌, ◌⊎◌, inl, inr, ⊎_elim, List, [], ◌∷◌, ◌++◌, length, get_or, set, refl, sym, ap, ◌∙◌, subst, arith, append_assoc, append-nil}
use mathlib.Core.Logic.{dite}
use native.Mathlib.Decide.{ℕ_discrete}
use Rattle.std.specs.Prelude.{Some, slice_get}
use Rattle.std.proofs.lemmas.List.{length-set, set-get_or}
use Rattle.std.proofs.lemmas.Option.{slice_get_within, slice_get-get_or}
use Rattle.journal_core.specs.declared.entry.Entry.{Entry}
use Rattle.journal_core.specs.declared.terms.Terms.{Terms}
use Rattle.journal_core.specs.History.{Legal, Begins, calls_of}
use Rattle.ledger_core.specs.Shared.{LedgerId, LedgerView, SeatView, Agree, Knows, Sees}
use Rattle.ledger_core.specs.Closing.{AreAllSeats, HasSeat, IsWhole, HaveMet}
use Rattle.ledger_core.specs.Meeting.{IsPassed, ArePassed}
use Rattle.journal_core.proofs.Histories.{begins_refl, begins_trans, legal_front, legal_none}
use Rattle.ledger_core.proofs.Seats.{calls_both, same_between}

-- indexes of a list

module _ {A : Type 0} where
  pub get-set_here : (l : List A) (i : ℕ) (a : A) → i < length l → slice_get (set l i a) i ≡ Some a
  get-set_here [] i a h = absurd (omega arith)
  get-set_here (x ∷ xs) zero a h = refl
  get-set_here (x ∷ xs) (suc i) a h = get-set_here xs i a (omega arith)

  pub get-set_else : (l : List A) (i j : ℕ) (a : A) → j ≢ i → slice_get (set l i a) j ≡ slice_get l j
  get-set_else [] i j a n = refl
  get-set_else (x ∷ xs) zero zero a n = absurd (n refl)
  get-set_else (x ∷ xs) zero (suc j) a n = refl
  get-set_else (x ∷ xs) (suc i) zero a n = refl
  get-set_else (x ∷ xs) (suc i) (suc j) a n = get-set_else xs i j a (λ e. n (ap suc e))

  pub some_at : (l : List A) (i : ℕ) → i < length l → (a : A) × (slice_get l i ≡ Some a)
  some_at [] i h = absurd (omega arith)
  some_at (x ∷ xs) zero h = (x, refl)
  some_at (x ∷ xs) (suc i) h = some_at xs i (omega arith)

  pub same_at : (l : List A) (i : ℕ) (a b : A) → slice_get l i ≡ Some a → slice_get l i ≡ Some b → a ≡ b
  same_at l i a b x y = let both : Some a ≡ Some b = sym x ∙ y in cc

-- the note is at seat `at`: it has passed the seats before it, and the others are unchanged
pub record AreOnWay (before after : List Entry) (at : ℕ) (old now : List SeatView) : Type 0 where
  pub count : length now ≡ length old
  pub on : Begins before after
  pub passed : (i : ℕ) (v : SeatView) → i < at → slice_get old i ≡ Some v → (w : SeatView) × (slice_get now i ≡ Some w) × IsPassed before after v w
  pub waiting : (i : ℕ) → at ≤ i → slice_get now i ≡ slice_get old i

pub set_out : (before : List Entry) (seats : List SeatView) → AreOnWay before before 0 seats seats
set_out before seats = record { count = refl; on = begins_refl before; passed = λ i v less at. absurd (omega arith); waiting = λ i more. refl }

-- the seat whose turn it is
pub its_turn : (before mid : List Entry) (at : ℕ) (old now : List SeatView) (v : SeatView) → AreOnWay before mid at old now → at < length now → v ≡ get_or now at v → slice_get old at ≡ Some v
its_turn before mid at old now v way inside is = sym (way.waiting at (omega arith)) ∙ slice_get-get_or now at v inside ∙ ap (λ (z : SeatView). Some z) (sym is)

pub goes_on : (before mid after : List Entry) (at : ℕ) (old now : List SeatView) (v w : SeatView) → AreOnWay before mid at old now → at < length now → v ≡ get_or now at v → IsPassed mid after v w
    → AreOnWay before after (at + 1) old (set now at w)
goes_on before mid after at old now v w way inside is p =
    let further : Begins mid after = begins_trans mid w.seen after p.from p.to in record {
      count = length-set now at w ∙ way.count;
      on = begins_trans before mid after way.on further;
      passed = λ i x less there. dite (ℕ_discrete i at)
          (λ here.
          let same : v ≡ x = same_at old at v x (its_turn before mid at old now v way inside is) (ap (slice_get old) (sym here) ∙ there) in (
            w,
            ap (slice_get (set now at w)) here ∙ get-set_here now at w inside,
            subst (λ (z : SeatView). IsPassed before after z w) same
                record { sees = p.sees; from = begins_trans before mid w.seen way.on p.from; to = p.to; known = p.known; knows = p.knows },
          ))
          (λ else.
          let was = way.passed i x (omega arith) there in
          let q = was.2 in
          (was.0, get-set_else now at i w else ∙ was.1, record { sees = q.sees; from = q.from; to = begins_trans was.0.seen mid after q.to further; known = q.known; knows = q.knows }));
      waiting = λ i more. get-set_else now at i w (λ e. omega arith) ∙ way.waiting i (omega arith);
    }

pub arrives : (before after : List Entry) (at : ℕ) (old now : List SeatView) → AreOnWay before after at old now → length old ≤ at → ArePassed before after old now
arrives before after at old now way end = record {
  count = way.count;
  on = way.on;
  each = λ i v there. way.passed i v (let inside = slice_get_within old i v there in omega arith) there;
}

-- seats that the note passed are still of the ledger
pub still_ours : (ledger : LedgerId) (before after : List Entry) (old new : List SeatView) → ArePassed before after old new
    → ((i : ℕ) (v : SeatView) → slice_get old i ≡ Some v → v.ledger ≡ ledger) → (i : ℕ) (w : SeatView) → slice_get new i ≡ Some w → w.ledger ≡ ledger
still_ours ledger before after old new passed ours i w there =
    let v = some_at old i (let inside = slice_get_within new i w there in let c = passed.count in omega arith) in
    let p = passed.each i v.0 v.1 in
    ap (λ (z : SeatView). z.ledger) (same_at new i w p.0 there p.1) ∙ ap (λ (z : SeatView). z.ledger) p.2.sees.1 ∙ ours i v.0 v.1

sees_then : (u v w : SeatView) → Sees u v → Sees v w → Sees u w
sees_then u v w a b =
    (a.0 ++ b.0, b.1 ∙ ap (λ (z : SeatView). record z { seen = z.seen ++ b.0 }) a.1 ∙ ap (λ l. record u { seen = l }) (append_assoc u.seen a.0 b.0))

pub sees_begins : (v w : SeatView) → Sees v w → Begins v.seen w.seen
sees_begins v w s = (s.0, ap (λ (z : SeatView). z.seen) s.1)

-- of two prefixes of one history, one is a prefix of the other
begins_both : (xs ys zs : List Entry) → Begins xs zs → Begins ys zs → Begins xs ys ⊎ Begins ys xs
begins_both [] ys zs a b = inl (ys, refl)
begins_both (x ∷ xs) [] zs a b = inr (x ∷ xs, refl)
begins_both (x ∷ xs) (y ∷ ys) zs a b =
    let both : x ∷ (xs ++ a.0) ≡ y ∷ (ys ++ b.0) = sym a.1 ∙ b.1 in
    let head : x ≡ y = cc in
    let tail : xs ++ a.0 ≡ ys ++ b.0 = cc in
    ⊎_elim
    (λ (l : Begins xs ys). inl (l.0, λ i. sym head i ∷ l.1 i))
    (λ (r : Begins ys xs). inr (r.0, λ i. head i ∷ r.1 i))
    (begins_both xs ys (xs ++ a.0) (a.0, refl) (b.0, tail))

-- a seat's entries in a prefix are the seat's first operations
calls_begin : (t : ℕ) (xs ys mine : List Entry) → Begins xs ys → calls_of t ys ≡ mine → Begins (calls_of t xs) mine
calls_begin t xs ys mine b own = (calls_of t b.0, sym own ∙ ap (calls_of t) b.1 ∙ calls_both t xs b.0)

-- seats of one history agree
pub agree : (history : List Entry) (v w : SeatView) → HasSeat history v → HasSeat history w → Agree v w
agree history v w a b = record {
  history = begins_both v.seen w.seen history a.seen b.seen;
  of_other = calls_begin w.number v.seen history w.mine a.seen b.own;
  of_one = calls_begin v.number w.seen history v.mine b.seen a.own;
}

-- what a seat sees later has the same operations of that seat
own_later : (v w : SeatView) → Sees v w → Knows w → calls_of v.number w.seen ≡ v.mine
own_later v w s knows = subst (λ (z : SeatView). calls_of z.number w.seen ≡ z.mine) (s.1 ∙ ap (λ l. record v { seen = l }) (sym (ap (λ (z : SeatView). z.seen) s.1))) knows.own

-- two seats agree if the first then sees xs, which includes what the second had seen, and the second sees ys, which
-- extends xs
pub agree_before : (v w : SeatView) (xs ys : List Entry) → Begins v.seen xs → Begins w.seen xs → Begins xs ys → calls_of v.number xs ≡ v.mine → calls_of w.number w.seen ≡ w.mine → calls_of w.number ys ≡ w.mine → Agree v w
agree_before v w xs ys a b further own other_own later =
    agree xs v w record { seen = a; own = own } record { seen = b; own = same_between w.number w.mine w.seen xs ys b further other_own later }

-- the same, from the contracts of the steps of a meeting: the note `one` is of the second seat w, the note `two` of the
-- first as it then is, x
pub agree_met : (v w w' x y : SeatView) (one two : List Entry) → Sees v x → Knows x → one ≡ w.seen → Begins one x.seen → w' ≡ w → two ≡ x.seen → Begins two y.seen → Sees w' y → Knows w' → Knows y → Agree v w
agree_met v w w' x y one two sees knows shown told same shown' told' sees' known' knows' =
    let second = subst (λ (z : SeatView). Sees z y) same sees' in
    let known = subst Knows same known' in
    agree_before v w x.seen y.seen (sees_begins v x sees) (subst (λ l. Begins l x.seen) shown told) (subst (λ l. Begins l y.seen) shown' told')
    (own_later v x sees knows) known.own (own_later w y second knows')

-- and afterwards, if both have seen the same
pub agree_after : (x y : SeatView) → Knows x → Knows y → y.seen ≡ x.seen → Agree x y
agree_after x y one other same =
    agree x.seen x y record { seen = begins_refl x.seen; own = one.own } record { seen = ([], sym same ∙ sym (append-nil y.seen)); own = ap (calls_of y.number) (sym same) ∙ other.own }

-- after two rounds
pub have_met : (from history to : List Entry) (old mid new : List SeatView) → ArePassed from history old mid → ArePassed history to mid new → HaveMet old new history
have_met from history to old mid new first second = record {
  count = second.count ∙ first.count;
  before = λ i v there.
      let p = first.each i v there in
      let q = second.each i p.0 p.1 in
      let begun : Begins v.seen history = begins_trans v.seen p.0.seen history (sees_begins v p.0 p.2.sees) p.2.to in
      let same = sees_then v p.0 q.0 p.2.sees q.2.sees in
      record {
        seen = begun;
        own = same_between v.number v.mine v.seen history q.0.seen begun q.2.from p.2.known.own
            (own_later v q.0 same q.2.knows);
      };
  after = λ i v there.
      let p = first.each i v there in
      let q = second.each i p.0 p.1 in
      (q.0, q.1, sees_then v p.0 q.0 p.2.sees q.2.sees, q.2.knows, q.2.from);
}

-- a seat that is unchanged
pub unchanged : (seats : List SeatView) (at : ℕ) (d v : SeatView) → v ≡ get_or seats at d → set seats at v ≡ seats
unchanged seats at d v is = ap (set seats at) is ∙ set-get_or seats at d

-- all seats of a ledger that have met have one whole history
pub whole_of_met : (ledger : LedgerView) (old new : List SeatView) (history : List Entry) → AreAllSeats ledger old → HaveMet old new history
    → (whole : List Entry) × IsWhole ledger.terms old whole
whole_of_met ledger [] new history all met = ([], record { legal = legal_none ledger.terms; each = λ i v at. absurd (cc) })
whole_of_met ledger (v ∷ vs) new history all met =
    let its = met.after 0 v refl in
    let terms : its.0.terms ≡ ledger.terms = ap (λ (z : SeatView). z.terms) its.2.1 ∙ (all.each 0 v refl).1 in (
      history,
      record {
        legal = legal_front ledger.terms history its.4.0 (subst (Legal ledger.terms) its.4.1 (subst (λ (z : Terms). Legal z its.0.seen) terms its.3.legal));
        each = met.before;
      },
    )
