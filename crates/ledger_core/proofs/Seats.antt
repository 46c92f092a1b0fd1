-- What a step does to a seat's fields.
use Rattle.std.proofs.Common.{Option, Some, None, IfSome, ◌≡◌, ◌≢◌, ℕ, zero, suc, ◌+◌, ◌-◌, ◌%◌, ◌<◌, ◌≤◌, not, ◌&&◌, ◌||◌, count_by, Bool, true, false, cond, nat_eq, ltb, List, [], ◌∷◌, ◌++◌, map, length, get_or, set, replicate, refl, sym, ap, ◌∙◌, subst, arith, length-append, append-nil, eq-eqb, ne_eqb, ltb-true, ltb-false, lt-ltb, add-zero, add-one}
use mathlib.Core.Logic.{dite}
use mathlib.Core.List.{map-append}
use native.Mathlib.Decide.{ℕ_discrete}
use Rattle.std.proofs.lemmas.List.Sums.{length-filter, count_by-le-length, sum_by-set}
use Rattle.std.proofs.lemmas.List.{length-map, length-set, get_or-set_same, get_or-set_other}
use Rattle.std.proofs.lemmas.Bool.{eqb-true}
use Rattle.journal_core.specs.declared.entry.Way.{Way}
use Rattle.journal_core.specs.declared.entry.Event.{Event}
use Rattle.journal_core.specs.declared.entry.Event.TheVariants.{Granted, Exhausted, Settled}
use Rattle.journal_core.specs.declared.entry.Entry.{Entry}
use Rattle.ledger_core.specs.declared.table.Record.{Record}
use Rattle.ledger_core.specs.declared.table.View.{View}
use Rattle.journal_core.specs.declared.terms.Terms.{Terms}
use Rattle.journal_core.specs.History.{IsLawful, entry, is_exhausted, grants, settles, granted, refused, times_granted, times_settled, calls_of, Legal, Begins}
use Rattle.ledger_core.specs.Rule.{knower, other_seats, added, Finds, Adds, Issues, Settles, issue_reply, IsHeld, Mine}
use Rattle.ledger_core.specs.Logs.{places_from, recorded, place_in, place_of_word, is_held, held_after, HasMark, HasRoom, IsMarked, Steps, IsSeat, event_of, from_seat}
use Rattle.ledger_core.specs.Shared.{LedgerId, SeatView, fresh_seat, fresh_seats}
use Rattle.journal_core.proofs.Histories.{MayReply, reply_of, calls_push, legal_none, legal_front, count_push}
use Rattle.journal_core.proofs.Bounds.{within, few_refusals}
use Rattle.journal_core.proofs.Owners.{in_range, few_settled, owned, count_calls_le, count_same, count_more}
use Rattle.ledger_core.proofs.Packing.{counts, counted, place_is, reply_is}

-- indexes

pub places_more : (n t : ℕ) (xs ys : List Entry) → places_from n t (xs ++ ys) ≡ places_from n t xs ++ places_from (n + length xs) t ys
places_more n t [] ys = ap (λ m. places_from m t ys) (sym (add-zero n))
places_more n t (x ∷ xs) ys = go (nat_eq x.seat t) (places_more (n + 1) t xs ys ∙ ap (λ m. places_from (n + 1) t xs ++ places_from m t ys) (omega arith))
  where
    go : (b : Bool) → places_from (n + 1) t (xs ++ ys) ≡ places_from (n + 1) t xs ++ places_from (n + length (x ∷ xs)) t ys
        → cond b (n ∷ places_from (n + 1) t (xs ++ ys)) (places_from (n + 1) t (xs ++ ys)) ≡ cond b (n ∷ places_from (n + 1) t xs) (places_from (n + 1) t xs) ++ places_from (n + length (x ∷ xs)) t ys
    go true e = ap (λ l. n ∷ l) e
    go false e = e

places_none : (n t : ℕ) (xs : List Entry) → calls_of t xs ≡ [] → places_from n t xs ≡ []
places_none n t [] e = refl
places_none n t (x ∷ xs) e = go (nat_eq x.seat t) e (places_none (n + 1) t xs)
  where
    go : (b : Bool) → cond b (x ∷ calls_of t xs) (calls_of t xs) ≡ [] → (calls_of t xs ≡ [] → places_from (n + 1) t xs ≡ [])
        → cond b (n ∷ places_from (n + 1) t xs) (places_from (n + 1) t xs) ≡ []
    go true e r = absurd (cc)
    go false e r = r e

same_front : (xs ys : List Entry) → xs ≡ xs ++ ys → ys ≡ []
same_front xs [] e = refl
same_front xs (y ∷ ys) e = let l = ap length e ∙ Rattle.std.proofs.Common.length-append xs (y ∷ ys) in absurd (omega arith)

pub calls_both : (t : ℕ) (xs ys : List Entry) → calls_of t (xs ++ ys) ≡ calls_of t xs ++ calls_of t ys
calls_both t xs ys = Rattle.std.proofs.lemmas.List.Elements.filter-append (λ e. nat_eq e.seat t) xs ys

-- if a seat made no operation in between, its indexes are the same
pub places_kept : (t : ℕ) (xs ys : List Entry) → Begins xs ys → calls_of t xs ≡ calls_of t ys → places_from 0 t ys ≡ places_from 0 t xs
places_kept t xs ys b same =
    let none = same_front (calls_of t xs) (calls_of t b.0) (same ∙ ap (calls_of t) b.1 ∙ calls_both t xs b.0) in
    ap (places_from 0 t) b.1 ∙ places_more 0 t xs b.0 ∙ ap (λ l. places_from 0 t xs ++ l) (places_none (0 + length xs) t b.0 none) ∙ append-nil (places_from 0 t xs)

-- the numbers that are held

pub held_is_true : (n : ℕ) (mine : List Entry) → IsHeld n mine → is_held n mine ≡ true
held_is_true n mine h = (λ i. lt-ltb 0 (times_granted n mine) h.granted i && eq-eqb (times_settled n mine) 0 h.unsettled i)

pub is_held_by : (n : ℕ) (mine : List Entry) → is_held n mine ≡ true → IsHeld n mine
is_held_by n mine h = go (ltb 0 (times_granted n mine)) (nat_eq (times_settled n mine) 0) refl refl h
  where
    go : (a b : Bool) → ltb 0 (times_granted n mine) ≡ a → nat_eq (times_settled n mine) 0 ≡ b → (a && b) ≡ true → IsHeld n mine
    go true true a b e = record { granted = ltb-true 0 (times_granted n mine) a; unsettled = eqb-true (times_settled n mine) 0 b }
    go true false a b e = absurd (cc)
    go false b a b' e = absurd (cc)

held_same : (n : ℕ) (mine : List Entry) (e : Entry) → grants n e ≡ false → settles n e ≡ false → is_held n (mine ++ e ∷ []) ≡ is_held n mine
held_same n mine e no_grant no_settle = λ i. ltb 0 (count_same (grants n) mine e no_grant i) && nat_eq (count_same (settles n) mine e no_settle i) 0

held_granted : (n t : ℕ) (mine : List Entry) → times_settled n mine ≡ 0 → is_held n (mine ++ entry t (Granted n) ∷ []) ≡ true
held_granted n t mine unsettled =
    let e : Entry = entry t (Granted n) in
    let more = count_more (grants n) mine e (eq-eqb n n refl) in
    let same = count_same (settles n) mine e refl in
    held_is_true n (mine ++ e ∷ []) record { granted = omega arith; unsettled = same ∙ unsettled }

held_settled : (n t : ℕ) (way : Way) (mine : List Entry) → is_held n (mine ++ entry t (Settled n way) ∷ []) ≡ false
held_settled n t way mine =
    let e : Entry = entry t (Settled n way) in
    let more = count_more (settles n) mine e (eq-eqb n n refl) in
    go (ltb 0 (times_granted n (mine ++ e ∷ []))) (ne_eqb (times_settled n (mine ++ e ∷ [])) 0 (λ is. omega arith))
  where
    go : (a : Bool) → nat_eq (times_settled n (mine ++ entry t (Settled n way) ∷ [])) 0 ≡ false → (a && nat_eq (times_settled n (mine ++ entry t (Settled n way) ∷ [])) 0) ≡ false
    go true e = e
    go false e = refl

abbrev HeldAre : Terms → List Bool → List Entry → Type 0
HeldAre terms held mine = (k : ℕ) → k < terms.range.size → get_or held k false ≡ is_held (terms.range.lo + k) mine

-- the new number is held
held_after_grant : (terms : Terms) (held : List Bool) (n t : ℕ) (mine : List Entry) → length held ≡ terms.range.size → times_settled n mine ≡ 0 → terms.range.lo ≤ n
    → HeldAre terms held mine → HeldAre terms (set held (n - terms.range.lo) true) (mine ++ entry t (Granted n) ∷ [])
held_after_grant terms held n t mine all unsettled above are k within = dite (ℕ_discrete k (n - terms.range.lo))
    (λ same.
    let number : terms.range.lo + k ≡ n = omega arith in
    ap (λ j. get_or (set held (n - terms.range.lo) true) j false) same ∙ get_or-set_same held (n - terms.range.lo) true false (omega arith) ∙ sym (held_granted n t mine unsettled) ∙ sym (ap (λ j. is_held j (mine ++ entry t (Granted n) ∷ [])) number))
    (λ other.
    get_or-set_other held (n - terms.range.lo) k true false other ∙ are k within ∙ sym (held_same (terms.range.lo + k) mine (entry t (Granted n)) (ne_eqb (terms.range.lo + k) n (λ is. other (omega arith))) refl))

held_after_end : (terms : Terms) (held : List Bool) (t : ℕ) (mine : List Entry) → HeldAre terms held mine → HeldAre terms held (mine ++ entry t Exhausted ∷ [])
held_after_end terms held t mine are k within = are k within ∙ sym (held_same (terms.range.lo + k) mine (entry t Exhausted) refl refl)

-- the number is no longer held
held_after_settle : (terms : Terms) (held : List Bool) (n t : ℕ) (way : Way) (mine : List Entry) → length held ≡ terms.range.size → terms.range.lo ≤ n
    → HeldAre terms held mine → HeldAre terms (set held (n - terms.range.lo) false) (mine ++ entry t (Settled n way) ∷ [])
held_after_settle terms held n t way mine all above are k within = dite (ℕ_discrete k (n - terms.range.lo))
    (λ same.
    let number : terms.range.lo + k ≡ n = omega arith in
    ap (λ j. get_or (set held (n - terms.range.lo) false) j false) same ∙ get_or-set_same held (n - terms.range.lo) false false (omega arith) ∙ sym (held_settled n t way mine) ∙ sym (ap (λ j. is_held j (mine ++ entry t (Settled n way) ∷ [])) number))
    (λ other.
    get_or-set_other held (n - terms.range.lo) k false false other ∙ are k within ∙ sym (held_same (terms.range.lo + k) mine (entry t (Settled n way)) refl (ne_eqb (terms.range.lo + k) n (λ is. other (omega arith)))))

-- the next number was never settled
never_settled : (k : Terms) (t n : ℕ) (history mine : List Entry) → Legal k history → calls_of t history ≡ mine → n ≡ k.range.lo + granted history → times_settled n mine ≡ 0
never_settled k t n history mine legal own is = dite (ℕ_discrete (times_settled n history) 0)
    (λ none. let le : times_settled n mine ≤ times_settled n history = subst (λ l. times_settled n l ≤ times_settled n history) own (count_calls_le (settles n) t history) in omega arith)
    (λ some. let b = (owned k history legal).below n (omega arith) in absurd (omega arith))

holds_now : (k : Terms) (t : ℕ) (history mine : List Entry) (held : List Bool) → Legal k history → calls_of t history ≡ mine → length held ≡ k.range.size → HeldAre k held mine
    → (event : Event) → MayReply k history t event → (length (held_after k.range.lo held event) ≡ length held) × HeldAre k (held_after k.range.lo held event) (mine ++ entry t event ∷ [])
holds_now k t history mine held legal own all are (Granted m) may = (
  length-set held (m - k.range.lo) true,
  held_after_grant k held m t mine all (never_settled k t m history mine legal own may.0) (let x = may.0 in omega arith) are,
)
holds_now k t history mine held legal own all are Exhausted may = (refl, held_after_end k held t mine are)
holds_now k t history mine held legal own all are (Settled m way) may =
    (length-set held (m - k.range.lo) false, held_after_settle k held m t way mine all (in_range k history legal t m may.0).0 are)

-- a number that is held is in the range
pub held_inside : (k : Terms) (t n : ℕ) (closed : Bool) (log : List Record) (held : List Bool) (me : Mine) → IsSeat k t closed log held me → IsHeld n me.0.mine
    → (k.range.lo ≤ n) × (n < k.range.lo + k.range.size)
held_inside k t n closed log held me s h =
    let r = in_range k me.0.seen s.legal t n (subst (λ l. 0 < times_granted n l) (sym s.own) h.granted) in
    let w = (within k me.0.seen s.legal).0 in
    (r.0, (let a = r.1 in omega arith))

-- the marks say what is held
pub marked_iff : (k : Terms) (t n : ℕ) (closed : Bool) (log : List Record) (held : List Bool) (me : Mine) → IsSeat k t closed log held me → (IsMarked k held n → IsHeld n me.0.mine) × (IsHeld n me.0.mine → IsMarked k held n)
marked_iff k t n closed log held me s = (
  (λ m.
      let at : k.range.lo + (n - k.range.lo) ≡ n = let a = m.0 in omega arith in
      let inside : n - k.range.lo < k.range.size = let a = m.1 in let b = s.all_held in omega arith in
      is_held_by n me.0.mine (sym (ap (λ z. is_held z me.0.mine) at) ∙ sym (s.held_is (n - k.range.lo) inside) ∙ m.2)),
  (λ h.
      let r = held_inside k t n closed log held me s h in
      let at : k.range.lo + (n - k.range.lo) ≡ n = let a = r.0 in omega arith in
      let inside : n - k.range.lo < k.range.size = let a = r.0 in let b = r.1 in omega arith in
      (r.0, (let b = s.all_held in omega arith), s.held_is (n - k.range.lo) inside ∙ ap (λ z. is_held z me.0.mine) at ∙ held_is_true n me.0.mine h)),
)

-- a seat after its own step
seat_grows : (k : Terms) (t : ℕ) (closed after : Bool) (log : List Record) (held now : List Bool) (me w : Mine) (n : ℕ) (history : List Entry) (e : Entry) (place : ℕ)
    → IsSeat k t closed log held me → Adds me.0 n history e w.0 → w.1 ≡ me.1 → e.seat ≡ t → place ≡ place_of_word n
    → after ≡ ltb 0 (refused (me.0.mine ++ e ∷ [])) → length now ≡ length held → HeldAre k now (me.0.mine ++ e ∷ [])
    → IsSeat k t after (log ++ record { entry = e; place = place } ∷ []) now w
seat_grows k t closed after log held now me w n history e place s a slots same at closes as_many are =
    let v : View = me.0 in
    let f = a.0 in
    let is : w.0 ≡ added v history e = a.2 in
    let legal : Legal k (history ++ e ∷ []) = subst (λ (z : Terms). Legal z (history ++ e ∷ [])) s.terms a.1 in
    let own : calls_of t history ≡ v.mine = subst (λ (z : ℕ). calls_of z history ≡ v.mine) s.number f.own in
    let here : calls_of t (history ++ e ∷ []) ≡ calls_of t history ++ e ∷ [] = calls_push t history e ∙ ap (λ b. calls_of t history ++ cond b (e ∷ []) []) (eq-eqb e.seat t same) in
    let lawful : IsLawful k = s.lawful in
    let length_is : place ≡ length history = at ∙ place_is k history n lawful (legal_front k history (e ∷ []) legal) f.found in
    let last : places_from (0 + length history) t (e ∷ []) ≡ place ∷ [] = ap (λ b. cond b ((0 + length history) ∷ []) []) (eq-eqb e.seat t same) ∙ ap (λ m. m ∷ []) (omega arith) in
    record {
      one_seat = ap (λ (z : View). z.width) is ∙ s.one_seat;
      no_slots = slots ∙ s.no_slots;
      terms = ap (λ (z : View). z.terms) is ∙ s.terms;
      number = ap (λ (z : View). z.seat) is ∙ s.number;
      inside = s.inside;
      lawful = lawful;
      legal = subst (λ (z : View). Legal k z.seen) (sym is) legal;
      own = subst (λ (z : View). calls_of t z.seen ≡ z.mine) (sym is) (here ∙ ap (λ l. l ++ e ∷ []) own);
      entries = map-append recorded log (record { entry = e; place = place } ∷ []) ∙ ap (λ l. l ++ e ∷ []) s.entries ∙ sym (ap (λ (z : View). z.mine) is);
      places = map-append place_in log (record { entry = e; place = place } ∷ []) ∙ (λ i. (s.places ∙ sym (places_kept t v.seen history f.further (s.own ∙ sym own))) i ++ sym last i) ∙ sym (places_more 0 t history (e ∷ [])) ∙ sym (ap (λ (z : View). places_from 0 t z.seen) is);
      closed_is = closes ∙ sym (ap (λ (z : View). ltb 0 (refused z.mine)) is);
      all_held = as_many ∙ s.all_held;
      held_is = λ j inside. are j inside ∙ sym (ap (λ (z : View). is_held (k.range.lo + j) z.mine) is);
    }

-- and after a load
pub seat_looks : (k : Terms) (t : ℕ) (closed : Bool) (log : List Record) (held : List Bool) (me w : Mine) (n : ℕ) (history : List Entry)
    → IsSeat k t closed log held me → Finds me.0 n history → w.0 ≡ record me.0 { seen = history } → w.1 ≡ me.1 → IsSeat k t closed log held w
seat_looks k t closed log held me w n history s f is slots =
    let own : calls_of t history ≡ me.0.mine = subst (λ (z : ℕ). calls_of z history ≡ me.0.mine) s.number f.own in
    record {
      one_seat = ap (λ (z : View). z.width) is ∙ s.one_seat;
      no_slots = slots ∙ s.no_slots;
      terms = ap (λ (z : View). z.terms) is ∙ s.terms;
      number = ap (λ (z : View). z.seat) is ∙ s.number;
      inside = s.inside;
      lawful = s.lawful;
      legal = subst (λ (z : View). Legal k z.seen) (sym is) (subst (λ (z : Terms). Legal z history) s.terms f.legal);
      own = subst (λ (z : View). calls_of t z.seen ≡ z.mine) (sym is) own;
      entries = s.entries ∙ sym (ap (λ (z : View). z.mine) is);
      places = s.places ∙ sym (places_kept t me.0.seen history f.further (s.own ∙ sym own)) ∙ sym (ap (λ (z : View). places_from 0 t z.seen) is);
      closed_is = s.closed_is ∙ sym (ap (λ (z : View). ltb 0 (refused z.mine)) is);
      all_held = s.all_held;
      held_is = λ j inside. s.held_is j inside ∙ sym (ap (λ (z : View). is_held (k.range.lo + j) z.mine) is);
    }

-- if two histories have the same operations of a seat, so has any history between them
pub same_between : (t : ℕ) (mine xs ys zs : List Entry) → Begins xs ys → Begins ys zs → calls_of t xs ≡ mine → calls_of t zs ≡ mine → calls_of t ys ≡ mine
same_between t mine xs ys zs a b first last =
    let left : calls_of t ys ≡ mine ++ calls_of t a.0 = ap (calls_of t) a.1 ∙ calls_both t xs a.0 ∙ ap (λ l. l ++ calls_of t a.0) first in
    let right : mine ≡ calls_of t ys ++ calls_of t b.0 = sym last ∙ ap (calls_of t) b.1 ∙ calls_both t ys b.0 in
    let none : length (calls_of t a.0) ≡ 0 = omega (arith, ap length left, ap length right, length-append mine (calls_of t a.0), length-append (calls_of t ys) (calls_of t b.0)) in
    left ∙ ap (λ l. mine ++ l) (empty (calls_of t a.0) none) ∙ append-nil mine
  where
    empty : (l : List Entry) → length l ≡ 0 → l ≡ []
    empty [] e = refl
    empty (x ∷ xs) e = absurd (omega arith)

-- and after a load through which it adopts what it heard
pub seat_adopts : (k : Terms) (t : ℕ) (closed : Bool) (log : List Record) (held : List Bool) (me w : Mine) (n : ℕ) (history : List Entry)
    → IsSeat k t closed log held me → Finds me.0 n history → Begins me.0.seen me.0.told → w.0 ≡ record me.0 { seen = me.0.told } → w.1 ≡ me.1 → IsSeat k t closed log held w
seat_adopts k t closed log held me w n history s f further is slots =
    let told : List Entry = me.0.told in
    let whole : calls_of t history ≡ me.0.mine = subst (λ (z : ℕ). calls_of z history ≡ me.0.mine) s.number f.own in
    let own : calls_of t told ≡ me.0.mine = same_between t me.0.mine me.0.seen told history further f.told s.own whole in
    let legal : Legal k told = legal_front k told f.told.0 (subst (Legal k) f.told.1 (subst (λ (z : Terms). Legal z history) s.terms f.legal)) in
    record {
      one_seat = ap (λ (z : View). z.width) is ∙ s.one_seat;
      no_slots = slots ∙ s.no_slots;
      terms = ap (λ (z : View). z.terms) is ∙ s.terms;
      number = ap (λ (z : View). z.seat) is ∙ s.number;
      inside = s.inside;
      lawful = s.lawful;
      legal = subst (λ (z : View). Legal k z.seen) (sym is) legal;
      own = subst (λ (z : View). calls_of t z.seen ≡ z.mine) (sym is) own;
      entries = s.entries ∙ sym (ap (λ (z : View). z.mine) is);
      places = s.places ∙ sym (places_kept t me.0.seen told further (s.own ∙ sym own)) ∙ sym (ap (λ (z : View). places_from 0 t z.seen) is);
      closed_is = s.closed_is ∙ sym (ap (λ (z : View). ltb 0 (refused z.mine)) is);
      all_held = s.all_held;
      held_is = λ j inside. s.held_is j inside ∙ sym (ap (λ (z : View). is_held (k.range.lo + j) z.mine) is);
    }

-- an operation of the seat, through the word that it found

or_more : (a b : Bool) (n m : ℕ) → b ≡ ltb 0 n → m ≡ n + cond {A = ℕ} a 1 0 → (a || b) ≡ ltb 0 m
or_more true b n m e more = sym (lt-ltb 0 m (omega arith))
or_more false b n m e more = e ∙ ap (ltb 0) (omega arith)

seat_steps : (k : Terms) (t : ℕ) (closed : Bool) (log : List Record) (held : List Bool) (me w : Mine) (n : ℕ) (history : List Entry) (event : Event) (place : ℕ)
    → IsSeat k t closed log held me → Adds me.0 n history (entry t event) w.0 → w.1 ≡ me.1 → place ≡ place_of_word n
    → IsSeat k t (is_exhausted (entry t event) || closed) (log ++ record { entry = entry t event; place = place } ∷ []) (held_after k.range.lo held event) w
seat_steps k t closed log held me w n history event place s adds slots at =
    let e : Entry = entry t event in
    let legal : Legal k (history ++ e ∷ []) = subst (λ (z : Terms). Legal z (history ++ e ∷ [])) s.terms adds.1 in
    let own : calls_of t history ≡ me.0.mine = subst (λ (z : ℕ). calls_of z history ≡ me.0.mine) s.number adds.0.own in
    let may = reply_of k history e (legal history e [] refl) in
    let now_held = holds_now k t history me.0.mine held (legal_front k history (e ∷ []) legal) own s.all_held s.held_is event may in
    seat_grows k t closed (is_exhausted e || closed) log held (held_after k.range.lo held event) me w n history e place s adds slots refl at
    (or_more (is_exhausted e) closed (refused me.0.mine) (refused (me.0.mine ++ e ∷ [])) s.closed_is (count_push is_exhausted me.0.mine e)) now_held.0 now_held.1

-- the word determines the reply
told_reply : (v : View) (k : Terms) (t n : ℕ) (event : Event) (w : View) → v.terms ≡ k → v.seat ≡ t → IsLawful k → (a : Issues v n w) → event ≡ issue_reply k (n % 1048576) → Adds v n a.0 (entry t event) w
told_reply v k t n event w terms seat lawful a is =
    let history : List Entry = a.0 in
    let told : event ≡ issue_reply k (granted history) = is ∙ reply_is k history n lawful (subst (λ (z : Terms). Legal z history) terms a.1.0.legal) a.1.0.found in
    let same : entry v.seat (issue_reply v.terms (granted history)) ≡ entry t event = λ i. entry (seat i) (((ap (λ (z : Terms). issue_reply z (granted history)) terms) ∙ sym told) i) in
    subst (λ (z : Entry). Adds v n history z w) same a.1

-- a number that was never granted is not held
never_held : (k : Terms) (t n : ℕ) (history mine : List Entry) → Legal k history → calls_of t history ≡ mine → n ≡ k.range.lo + granted history → is_held n mine ≡ false
never_held k t n history mine legal own is = dite (ℕ_discrete (times_granted n mine) 0)
    (λ none. ap (λ m. ltb 0 m && nat_eq (times_settled n mine) 0) none)
    (λ some. let r = in_range k history legal t n (subst (λ l. 0 < times_granted n l) (sym own) (omega arith)) in let below = r.1 in absurd (omega arith))

-- a number that is granted has a mark, which is not set
marked_by : (k : Terms) (t : ℕ) (history mine : List Entry) (held : List Bool) → Legal k history → calls_of t history ≡ mine → length held ≡ k.range.size → HeldAre k held mine
    → (event : Event) → MayReply k history t event → ((m : ℕ) (way : Way) → event ≢ Settled m way) → HasMark k.range.lo held event
marked_by k t history mine held legal own all are (Granted m) may never =
    let number = may.0 in
    let few = may.1 in
    let at : k.range.lo + (m - k.range.lo) ≡ m = omega arith in
    let inside : m - k.range.lo < k.range.size = omega arith in
    ((omega arith), (omega arith), are (m - k.range.lo) inside ∙ ap (λ j. is_held j mine) at ∙ never_held k t m history mine legal own number)
marked_by k t history mine held legal own all are Exhausted may never = tt
marked_by k t history mine held legal own all are (Settled m way) may never = absurd (never m way refl)

no_settlement : (k : Terms) (n : ℕ) (event : Event) → event ≡ issue_reply k n → (m : ℕ) (way : Way) → event ≢ Settled m way
no_settlement k n event is m way = go (ltb n k.range.size) is
  where
    go : (b : Bool) → event ≡ cond b (Granted (k.range.lo + n)) Exhausted → event ≢ Settled m way
    go true e = λ same. absurd (cc)
    go false e = λ same. absurd (cc)

pub reply_marked : (k : Terms) (t n lo : ℕ) (closed : Bool) (log : List Record) (held : List Bool) (me : Mine) (w : View) (event : Event)
    → IsSeat k t closed log held me → Issues me.0 n w → event ≡ issue_reply k (n % 1048576) → lo ≡ k.range.lo → HasMark lo held event
reply_marked k t n lo closed log held me w event s a is at =
    let history : List Entry = a.0 in
    let adds = told_reply me.0 k t n event w s.terms s.number s.lawful a is in
    let e : Entry = entry t event in
    let legal : Legal k (history ++ e ∷ []) = subst (λ (z : Terms). Legal z (history ++ e ∷ [])) s.terms adds.1 in
    let own : calls_of t history ≡ me.0.mine = subst (λ (z : ℕ). calls_of z history ≡ me.0.mine) s.number adds.0.own in
    let may = reply_of k history e (legal history e [] refl) in
    subst (λ z. HasMark z held event) (sym at)
    (marked_by k t history me.0.mine held (legal_front k history (e ∷ []) legal) own s.all_held s.held_is event may (no_settlement k (n % 1048576) event is))

pub reply_room : (k : Terms) (n used room : ℕ) (event : Event) → event ≡ issue_reply k n → used + 2 ≤ room → HasRoom used room event
reply_room k n used room event is enough = subst (HasRoom used room) (sym is) (go (ltb n k.range.size))
  where
    go : (b : Bool) → HasRoom used room (cond b (Granted (k.range.lo + n)) Exhausted)
    go true = enough
    go false = omega arith

-- ---- the marks that are set, and the room owed to them

owed_set : (held : List Bool) (i : ℕ) (mark : Bool) → i < length held → count_by (λ m. m) (set held i mark) + cond {A = ℕ} (get_or held i false) 1 0 ≡ count_by (λ m. m) held + cond mark 1 0
owed_set held i mark inside = sum_by-set (λ (m : Bool). cond {A = ℕ} m 1 0) held i mark false inside

pub owed_more : (held : List Bool) (i : ℕ) → i < length held → get_or held i false ≡ false → count_by (λ m. m) (set held i true) ≡ count_by (λ m. m) held + 1
owed_more held i inside clear = let s = owed_set held i true inside in let c = ap (λ b. cond {A = ℕ} b 1 0) clear in omega arith

pub owed_less : (held : List Bool) (i : ℕ) → i < length held → get_or held i false ≡ true → count_by (λ m. m) (set held i false) + 1 ≡ count_by (λ m. m) held
owed_less held i inside marked = let s = owed_set held i false inside in let c = ap (λ b. cond {A = ℕ} b 1 0) marked in omega arith

-- there is room for one more record
pub may_keep : (lo used owed room : ℕ) (held : List Bool) (event : Event) → owed ≡ count_by (λ m. m) held → used + owed ≤ room
    → HasRoom (used + owed) room event → HasMark lo held event → used < room
may_keep lo used owed room held (Granted n) is within enough mark = omega arith
may_keep lo used owed room held Exhausted is within enough mark = omega arith
may_keep lo used owed room held (Settled n way) is within enough mark = let less = owed_less held (n - lo) mark.1 mark.2 in omega arith

pub seat_issues : (k : Terms) (t : ℕ) (closed after : Bool) (log grown : List Record) (held now : List Bool) (me w : Mine) (n place : ℕ) (event : Event)
    → IsSeat k t closed log held me → Issues me.0 n w.0 → w.1 ≡ me.1 → event ≡ issue_reply k (n % 1048576) → place ≡ place_of_word n
    → after ≡ (is_exhausted (entry t event) || closed) → grown ≡ log ++ record { entry = entry t event; place = place } ∷ [] → now ≡ held_after k.range.lo held event
    → IsSeat k t after grown now w
seat_issues k t closed after log grown held now me w n place event s a slots is at closes more changed =
    subst (λ (z : Bool × List Record × List Bool). IsSeat k t z.0 z.1 z.2 w) (λ i. (sym closes i, sym more i, sym changed i))
    (seat_steps k t closed log held me w n a.0 event place s (told_reply me.0 k t n event w.0 s.terms s.number s.lawful a is) slots at)

-- a number that was granted is held
pub granted_held : (k : Terms) (t lo : ℕ) (closed : Bool) (log : List Record) (held now : List Bool) (me : Mine) (granted : Option ℕ) → IsSeat k t closed log now me → lo ≡ k.range.lo
    → HasMark lo held (event_of granted) → now ≡ held_after lo held (event_of granted) → IfSome granted (λ n. IsHeld n me.0.mine)
granted_held k t lo closed log held now me (Some n) s at mark is =
    let inside : n - lo < length held = mark.1 in
    let long : length now ≡ length held = ap length is ∙ length-set held (n - lo) true in
    let set_now : get_or now (n - lo) false ≡ true = ap (λ l. get_or l (n - lo) false) is ∙ get_or-set_same held (n - lo) true false inside in
    (marked_iff k t n closed log now me s).0 (subst (λ (z : ℕ). (z ≤ n) × (n - z < length now) × (get_or now (n - z) false ≡ true)) at (mark.0, (omega arith), set_now))
granted_held k t lo closed log held now me None s at mark is = tt

pub found_small : (k : Terms) (t : ℕ) (closed : Bool) (log : List Record) (held : List Bool) (me : Mine) (n : ℕ) (history : List Entry)
    → IsSeat k t closed log held me → Finds me.0 n history → n < 1152921504606846976
found_small k t closed log held me n history s f = (counts me.0.terms history n f.lawful f.legal f.found).small

adds_steps : (v : View) (n : ℕ) (history : List Entry) (e : Entry) (w : View) → Adds v n history e w → Steps v e w
adds_steps v n history e w a = (a.0.further.0, ap (λ (z : View). z.seen) a.2 ∙ ap (λ l. l ++ e ∷ []) a.0.further.1, ap (λ (z : View). z.mine) a.2)

pub steps_by : (v w : View) (k : Terms) (t : ℕ) (n : ℕ) (event : Event) → v.terms ≡ k → v.seat ≡ t → IsLawful k → Issues v n w → event ≡ issue_reply k (n % 1048576) → Steps v (entry t event) w
steps_by v w k t n event terms seat lawful a is = adds_steps v n a.0 (entry t event) w (told_reply v k t n event w terms seat lawful a is)

told_settle : (v w : View) (t number : ℕ) (way : Way) (n : ℕ) → v.seat ≡ t → (a : Settles number way v n w) → Adds v n a.0 (entry t (Settled number way)) w
told_settle v w t number way n seat a = subst (λ (z : ℕ). Adds v n a.0 (entry z (Settled number way)) w) seat a.1

pub seat_settles : (k : Terms) (t number : ℕ) (way : Way) (closed after : Bool) (log grown : List Record) (held now : List Bool) (me w : Mine) (n place : ℕ)
    → IsSeat k t closed log held me → Settles number way me.0 n w.0 → w.1 ≡ me.1 → place ≡ place_of_word n
    → after ≡ closed → grown ≡ log ++ record { entry = entry t (Settled number way); place = place } ∷ [] → now ≡ set held (number - k.range.lo) false
    → IsSeat k t after grown now w
seat_settles k t number way closed after log grown held now me w n place s a slots at closes more changed =
    subst (λ (z : Bool × List Record × List Bool). IsSeat k t z.0 z.1 z.2 w) (λ i. (sym closes i, sym more i, sym changed i))
    (seat_steps k t closed log held me w n a.0 (Settled number way) place s (told_settle me.0 w.0 t number way n s.number a) slots at)

pub steps_settle : (v w : View) (t number : ℕ) (way : Way) (n : ℕ) → v.seat ≡ t → Settles number way v n w → Steps v (entry t (Settled number way)) w
steps_settle v w t number way n seat a = adds_steps v n a.0 (entry t (Settled number way)) w (told_settle v w t number way n seat a)

-- a new ledger's seats

pub new_is_seat : (k : Terms) (t : ℕ) (closed : Bool) (log : List Record) (held : List Bool) (me : Mine) → IsLawful k → t < k.seats → closed ≡ false → log ≡ [] → length held ≡ k.range.size → ((j : ℕ) → get_or held j false ≡ false)
    → me ≡ (knower k t [] [] [], []) → IsSeat k t closed log held me
new_is_seat k t closed log held me lawful inside clear none_yet all none_held is =
    subst (λ (z : Mine). IsSeat k t closed log held z) (sym is) (subst (λ (z : Bool × List Record). IsSeat k t z.0 z.1 held (knower k t [] [] [], [])) (λ i. (sym clear i, sym none_yet i)) record {
      one_seat = refl;
      no_slots = refl;
      terms = refl;
      number = refl;
      inside = inside;
      lawful = lawful;
      legal = legal_none k;
      own = refl;
      entries = refl;
      places = refl;
      closed_is = refl;
      all_held = all;
      held_is = λ j within. none_held j;
    })

pub others_are : (k : Terms) (t : ℕ) → other_seats (from_seat k t) ≡ from_seat k (t + 1)
others_are k t = let e : k.seats - t - 1 ≡ k.seats - (t + 1) = omega arith in λ i. record { terms = k; seat = t + 1; width = e i; seen = []; mine = []; told = [] }

-- a seat has made few operations
pub few_operations : (k : Terms) (t : ℕ) (closed : Bool) (log : List Record) (held : List Bool) (me : Mine) → IsSeat k t closed log held me → (length log ≡ length me.0.mine) × (length me.0.mine < 1048576)
few_operations k t closed log held me s =
    let seen : List Entry = me.0.seen in
    let a : length (map recorded log) ≡ length log = length-map log recorded in
    let b : length (map recorded log) ≡ length me.0.mine = ap length s.entries in
    let c : length (calls_of t seen) ≡ length me.0.mine = ap length s.own in
    let d : length (calls_of t seen) ≡ count_by (λ e. nat_eq e.seat t) seen = length-filter (λ e. nat_eq e.seat t) seen in
    let e = count_by-le-length (λ e. nat_eq e.seat t) seen in
    let f = counted seen in
    let g = (within k seen s.legal).0 in
    let h = few_refusals k seen s.legal in
    let i = few_settled k seen s.legal in
    let j = s.lawful.range.few in
    let l = s.lawful.few_seats in
    let x : ℕ = length me.0.mine in
    let y : ℕ = length log in
    let z : ℕ = length (map recorded log) in
    let u : ℕ = length (calls_of t seen) in
    let m : ℕ = count_by (λ e. nat_eq e.seat t) seen in
    ((omega arith), (omega arith))

pub fresh_grows : (z y : LedgerId) (k : Terms) (t : ℕ) (items after : List SeatView) (seat : SeatView) → items ≡ fresh_seats z k t → after ≡ items ++ seat ∷ [] → seat ≡ fresh_seat y k t → y ≡ z → after ≡ fresh_seats z k (t + 1)
fresh_grows z y k t items after seat is grown new same =
    grown ∙ (λ i. is i ++ (new ∙ ap (λ (x : LedgerId). fresh_seat x k t) same) i ∷ []) ∙ sym (ap (fresh_seats z k) (add-one t))
