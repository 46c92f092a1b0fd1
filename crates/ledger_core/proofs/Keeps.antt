-- Each step keeps the rule of the ledger's word. The seat that steps adds its entry to the one history. Every other
-- view stays true, since the entry comes after what that view has seen and is of another seat. So a step's proof shows
-- only that its entry may follow, and that the word has its counts.
use Rattle.std.proofs.Common.{◌≡◌, ◌≢◌, ◌⊎◌, ℕ, zero, suc, ◌+◌, ◌-◌, ◌%◌, ◌^◌, ◌<◌, ◌≤◌, Bool, true, false, cond, nat_eq, ltb, List, [], ◌∷◌, ◌++◌, length, get_or, set, refl, sym, ap, ◌∙◌, subst, inl, inr, ⊎_elim, arith, append-nil, eq-eqb, ne_eqb, ltb-true, ltb-false}
use mathlib.Core.Option.{none, some, some-injective, some-ne-none}
use lib.ListN.{get_elem?}
use Rattle.atomic_table.specs.Table.{State, step, keeps, stepped, Allows, Splits, Joins, opening}
use Rattle.atomic_table.proofs.Lists.{at_set}
use Rattle.journal_core.specs.declared.entry.Way.{Way}
use Rattle.journal_core.specs.declared.entry.Way.TheVariants.{Sealed, Void}
use Rattle.journal_core.specs.declared.entry.Event.TheVariants.{Granted, Exhausted, Settled}
use Rattle.journal_core.specs.declared.entry.Entry.{Entry}
use Rattle.ledger_core.specs.declared.table.View.{View}
use Rattle.journal_core.specs.declared.terms.Terms.{Terms}
use Rattle.journal_core.specs.History.{IsLawful, entry, granted, refused, times_granted, times_settled, calls_of, MayFollow, Legal}
use Rattle.ledger_core.specs.Rule.{packed, StandsFor, Fits, Apart, HasHistory, IsKept, newcomer, added, Finds, Adds, issue_reply, Mine, issued, settled, looked, adopted, first_seat, other_seats, note_of, hears, nobody}
use Rattle.journal_core.proofs.Histories.{MayReply, follows, calls_push, begins_refl, begins_more, legal_push, legal_none}
use Rattle.journal_core.proofs.Bounds.{within}
use Rattle.journal_core.proofs.Owners.{still_open}
use Rattle.ledger_core.proofs.Packing.{weight, packed_push, counts}

abbrev Table : Type 0
Table = State (Unit {0}) View

calls_here : (history : List Entry) (e : Entry) (t : ℕ) → e.seat ≡ t → calls_of t (history ++ e ∷ []) ≡ calls_of t history ++ e ∷ []
calls_here history e t same = calls_push t history e ∙ ap (λ b. calls_of t history ++ cond b (e ∷ []) []) (eq-eqb e.seat t same)

calls_there : (history : List Entry) (e : Entry) (t : ℕ) → e.seat ≢ t → calls_of t (history ++ e ∷ []) ≡ calls_of t history
calls_there history e t other = calls_push t history e ∙ ap (λ b. calls_of t history ++ cond b (e ∷ []) []) (ne_eqb e.seat t other) ∙ append-nil (calls_of t history)

-- another view, which does not cover the seat of the new entry
fits_on : (k : Terms) (history : List Entry) (e : Entry) (v : View) → ¬ (StandsFor v e.seat) → Fits k history v → Fits k (history ++ e ∷ []) v
fits_on k history e v not f = record {
  terms = f.terms;
  seats = f.seats;
  seen = begins_more v.seen history (e ∷ []) f.seen;
  told = begins_more v.told history (e ∷ []) f.told;
  own = λ some_seat. calls_there history e v.seat (λ is. not ((omega arith), (omega arith))) ∙ f.own some_seat;
  idle = λ u above below. calls_there history e u (λ is. not ((omega arith), (omega arith))) ∙ f.idle u above below;
}

-- the view of the seat that adds the entry
fits_here : (k : Terms) (history : List Entry) (e : Entry) (v : View) → e.seat ≡ v.seat → v.width ≡ 1 → Fits k history v → Fits k (history ++ e ∷ []) (added v history e)
fits_here k history e v same one f = record {
  terms = f.terms;
  seats = f.seats;
  seen = begins_refl (history ++ e ∷ []);
  told = begins_more v.told history (e ∷ []) f.told;
  own = λ some_seat. calls_here history e v.seat same ∙ ap (λ l. l ++ e ∷ []) (f.own some_seat);
  idle = λ u above below. absurd (omega arith);
}

-- a view is replaced by one that covers no other seat
apart_set : (views : List View) (id : ℕ) (old new : View) → get_elem? views id ≡ some old → ((u : ℕ) → StandsFor new u → StandsFor old u) → Apart views → Apart (set views id new)
apart_set views id old new at less apart i j u v w ati atj sv sw =
    let one = was i v ati sv in
    let other = was j w atj sw in
    apart i j u one.0 other.0 one.1.0 other.1.0 one.1.1 other.1.1
  where
    was : (i : ℕ) (v : View) → get_elem? (set views id new) i ≡ some v → StandsFor v u → (x : View) × ((get_elem? views i ≡ some x) × StandsFor x u)
    was i v ati sv =
        ⊎_elim
        (λ (t : (i ≡ id) × (new ≡ v)). (old, (subst (λ (z : ℕ). get_elem? views z ≡ some old) (sym t.0) at, less u (subst (λ (z : View). StandsFor z u) (sym t.1) sv))))
        (λ (t : (i ≢ id) × (get_elem? views i ≡ some v)). (v, (t.1, sv)))
        (at_set views id i new v ati)

fits_set : (k : Terms) (history now : List Entry) (views : List View) (id : ℕ) (new : View) → Fits k now new
    → ((i : ℕ) (x : View) → i ≢ id → get_elem? views i ≡ some x → Fits k now x)
    → (i : ℕ) (x : View) → get_elem? (set views id new) i ≡ some x → Fits k now x
fits_set k history now views id new mine others i x ati =
    ⊎_elim
    (λ (t : (i ≡ id) × (new ≡ x)). subst (Fits k now) t.1 mine)
    (λ (t : (i ≢ id) × (get_elem? views i ≡ some x)). others i x t.0 t.1)
    (at_set views id i new x ati)

-- a lawful entry, by a seat whose view covers only itself
grows : (k : Terms) (history : List Entry) (s : Table) (id : ℕ) (c : List (ℕ × Unit {0})) (v : View) (e : Entry) (n : ℕ)
    → HasHistory k history s → get_elem? s.views id ≡ some v → v.width ≡ 1 → e.seat ≡ v.seat → MayFollow k history e → n ≡ packed (history ++ e ∷ [])
    → HasHistory k (history ++ e ∷ []) (stepped s 0 n id c (added v history e) keeps)
grows k history s id c v e n h at one same may is = record {
  lawful = h.lawful;
  legal = legal_push k history e h.legal may;
  word = ap (λ (ws : List ℕ). set ws 0 n) h.word ∙ ap (λ (x : ℕ). x ∷ []) is;
  fits = fits_set k history (history ++ e ∷ []) s.views id (added v history e) (fits_here k history e v same one (h.fits id v at))
      (λ i x apart ati. fits_on k history e x (λ (stands : StandsFor x e.seat). apart (h.apart i id e.seat x v ati at stands ((omega arith), (omega arith)))) (h.fits i x ati));
  apart = apart_set s.views id v (added v history e) at (λ u stands. stands) h.apart;
}

-- a step that adds nothing
stays : (k : Terms) (history : List Entry) (s : Table) (id : ℕ) (c : List (ℕ × Unit {0})) (v w : View) (n : ℕ)
    → HasHistory k history s → get_elem? s.views id ≡ some v → Fits k history w → ((u : ℕ) → StandsFor w u → StandsFor v u) → n ≡ packed history
    → HasHistory k history (stepped s 0 n id c w keeps)
stays k history s id c v w n h at f less is = record {
  lawful = h.lawful;
  legal = h.legal;
  word = ap (λ (ws : List ℕ). set ws 0 n) h.word ∙ ap (λ (x : ℕ). x ∷ []) is;
  fits = fits_set k history history s.views id w f (λ i x apart ati. h.fits i x ati);
  apart = apart_set s.views id v w at less h.apart;
}

found_word : (k : Terms) (history : List Entry) (s : Table) → HasHistory k history s → get_or s.words 0 0 ≡ packed history
found_word k history s h = ap (λ (ws : List ℕ). get_or ws 0 0) h.word

finds : (k : Terms) (history : List Entry) (s : Table) (id : ℕ) (v : View) → HasHistory k history s → get_elem? s.views id ≡ some v → 0 < v.width → Finds v (get_or s.words 0 0) history
finds k history s id v h at there =
    let f = h.fits id v at in
    let terms : v.terms ≡ k = f.terms there in record {
      further = f.seen;
      told = f.told;
      found = found_word k history s h;
      lawful = subst IsLawful (sym terms) h.lawful;
      legal = subst (λ (z : Terms). Legal z history) (sym terms) h.legal;
      own = f.own there;
    }

-- the table before any step
pub begins : (k : Terms) → IsLawful k → IsKept k (opening (0 ∷ []) [] (newcomer k))
begins k lawful = (
  [],
  record {
    lawful = lawful;
    legal = legal_none k;
    word = refl;
    fits = one;
    apart = same;
  },
)
  where
    one : (i : ℕ) (v : View) → get_elem? (newcomer k ∷ []) i ≡ some v → Fits k [] v
    one zero v at = subst (Fits k []) (some-injective _ _ at) record {
      terms = λ _. refl;
      seats = λ _. omega arith;
      seen = begins_refl [];
      told = begins_refl [];
      own = λ _. refl;
      idle = λ u _ _. refl;
    }
    one (suc i) v at = absurd (some-ne-none v (sym at))

    same : Apart (newcomer k ∷ [])
    same zero zero u v w ati atj sv sw = refl
    same zero (suc j) u v w ati atj sv sw = absurd (some-ne-none w (sym atj))
    same (suc i) j u v w ati atj sv sw = absurd (some-ne-none v (sym ati))

-- an entry that the history allows, as the seat finds it

adds : (k : Terms) (history : List Entry) (s : Table) (id : ℕ) (c : List (ℕ × Unit {0})) (v : View) (e : Entry) (n : ℕ)
    → HasHistory k history s → get_elem? s.views id ≡ some v → v.width ≡ 1 → e.seat ≡ v.seat → MayFollow k history e → n ≡ packed (history ++ e ∷ [])
    → HasHistory k (history ++ e ∷ []) (stepped s 0 n id c (added v history e) keeps) × Adds v (get_or s.words 0 0) history e (added v history e)
adds k history s id c v e n h at one same may is =
    let next = grows k history s id c v e n h at one same may is in
    let terms : v.terms ≡ k = (h.fits id v at).terms (omega arith) in
    (next, (finds k history s id v h at (omega arith), subst (λ (z : Terms). Legal z (history ++ e ∷ [])) (sym terms) next.legal, refl))

-- an issue

may_issue : (k : Terms) (history : List Entry) (t : ℕ) → Legal k history → t < k.seats → refused (calls_of t history) ≡ 0 → MayFollow k history (entry t (issue_reply k (granted history)))
may_issue k history t legal inside none_yet = follows k history (entry t (issue_reply k (granted history))) inside (go (ltb (granted history) k.range.size) refl)
  where
    go : (b : Bool) → ltb (granted history) k.range.size ≡ b → MayReply k history t (cond b (Granted (k.range.lo + granted history)) Exhausted)
    go true e = (refl, ltb-true (granted history) k.range.size e, none_yet)
    go false e = let top = (within k history legal).0 in let not = ltb-false (granted history) k.range.size e in ((omega arith), none_yet)

weight_issue : (k : Terms) (n : ℕ) → weight (issue_reply k n) ≡ 1
weight_issue k n = go (ltb n k.range.size)
  where
    go : (b : Bool) → weight (cond b (Granted (k.range.lo + n)) Exhausted) ≡ 1
    go true = refl
    go false = refl

pub issues : (k : Terms) (slots id : ℕ) (me : Mine) → me.0.width ≡ 1 → refused me.0.mine ≡ 0
    → Allows (IsKept k) slots id me 0 (λ n. (n + 1) % 2 ^ 64) (issued (step slots 0 1 0 none) me)
issues k slots id me one clear s kept _ at _ =
    let history : List Entry = kept.0 in
    let h : HasHistory k history s = kept.1 in
    let v : View = me.0 in
    let f = h.fits id v at in
    let there : 0 < v.width = omega arith in
    let own : calls_of v.seat history ≡ v.mine = f.own there in
    let terms : v.terms ≡ k = f.terms there in
    let inside = f.seats there in
    let e : Entry = entry v.seat (issue_reply k (granted history)) in
    let may : MayFollow k history e = may_issue k history v.seat h.legal (omega arith) (ap refused own ∙ clear) in
    let found : get_or s.words 0 0 ≡ packed history = found_word k history s h in
    let more : packed (history ++ e ∷ []) ≡ packed history + 1 = packed_push history v.seat (issue_reply k (granted history)) ∙ ap (λ x. packed history + x) (weight_issue k (granted history)) in
    let small = (counts k history (packed history) h.lawful h.legal refl).small in
    let x : ℕ = get_or s.words 0 0 in
    let p : ℕ = packed history in
    let q : ℕ = packed (history ++ e ∷ []) in
    let is : (x + 1) % 18446744073709551616 ≡ q = omega arith in
    let next = adds k history s id me.1 v e ((x + 1) % 2 ^ 64) h at one refl may is in
    (added v history e, keeps, tt, (history ++ e ∷ [], next.0), ((history, subst (λ (z : Terms). Adds v x history (entry v.seat (issue_reply z (granted history))) (added v history e)) (sym terms) next.1), refl))

-- a settlement

settle : (k : Terms) (slots id number operand : ℕ) (way : Way) (me : Mine) → weight (Settled number way) ≡ operand → operand ≤ 1099511627776
    → me.0.width ≡ 1 → 0 < times_granted number me.0.mine → times_settled number me.0.mine ≡ 0
    → Allows (IsKept k) slots id me 0 (λ n. (n + operand) % 2 ^ 64) (settled number way (step slots 0 operand 0 none) me)
settle k slots id number operand way me weighs little one held none_yet s kept _ at _ =
    let history : List Entry = kept.0 in
    let h : HasHistory k history s = kept.1 in
    let v : View = me.0 in
    let f = h.fits id v at in
    let there : 0 < v.width = omega arith in
    let own : calls_of v.seat history ≡ v.mine = f.own there in
    let inside = f.seats there in
    let e : Entry = entry v.seat (Settled number way) in
    let has : 0 < times_granted number (calls_of v.seat history) = subst (λ l. 0 < times_granted number l) (sym own) held in
    let may : MayFollow k history e = follows k history e (omega arith) (has, still_open k history v.seat number h.legal has (ap (times_settled number) own ∙ none_yet)) in
    let found : get_or s.words 0 0 ≡ packed history = found_word k history s h in
    let more : packed (history ++ e ∷ []) ≡ packed history + operand = packed_push history v.seat (Settled number way) ∙ ap (λ x. packed history + x) weighs in
    let small = (counts k history (packed history) h.lawful h.legal refl).small in
    let x : ℕ = get_or s.words 0 0 in
    let p : ℕ = packed history in
    let q : ℕ = packed (history ++ e ∷ []) in
    let is : (x + operand) % 18446744073709551616 ≡ q = omega arith in
    let next = adds k history s id me.1 v e ((x + operand) % 2 ^ 64) h at one refl may is in
    (added v history e, keeps, tt, (history ++ e ∷ [], next.0), ((history, next.1), refl))

pub settles_sealed : (k : Terms) (slots id number : ℕ) (me : Mine) → me.0.width ≡ 1 → 0 < times_granted number me.0.mine → times_settled number me.0.mine ≡ 0
    → Allows (IsKept k) slots id me 0 (λ n. (n + 1048576) % 2 ^ 64) (settled number Sealed (step slots 0 1048576 0 none) me)
settles_sealed k slots id number me = settle k slots id number 1048576 Sealed me refl (omega arith)

pub settles_void : (k : Terms) (slots id number : ℕ) (me : Mine) → me.0.width ≡ 1 → 0 < times_granted number me.0.mine → times_settled number me.0.mine ≡ 0
    → Allows (IsKept k) slots id me 0 (λ n. (n + 1099511627776) % 2 ^ 64) (settled number Void (step slots 0 1099511627776 0 none) me)
settles_void k slots id number me = settle k slots id number 1099511627776 Void me refl (omega arith)

-- a load

pub looks : (k : Terms) (slots id : ℕ) (me : Mine) → 0 < me.0.width → Allows (IsKept k) slots id me 0 (λ n. n) (looked (step slots 0 0 0 none) me)
looks k slots id me there s kept _ at _ =
    let history : List Entry = kept.0 in
    let h : HasHistory k history s = kept.1 in
    let v : View = me.0 in
    let f = h.fits id v at in
    let w : View = record v { seen = history } in
    let fits : Fits k history w = record { terms = f.terms; seats = f.seats; seen = begins_refl history; told = f.told; own = f.own; idle = f.idle } in (
      w,
      keeps,
      tt,
      (history, stays k history s id me.1 v w (get_or s.words 0 0) h at fits (λ u stands. stands) (found_word k history s h)),
      ((history, finds k history s id v h at there, refl), refl),
    )

-- a load after which the seat has seen what it heard
pub adopts : (k : Terms) (slots id : ℕ) (me : Mine) → 0 < me.0.width → Allows (IsKept k) slots id me 0 (λ n. n) (adopted (step slots 0 0 0 none) me)
adopts k slots id me there s kept _ at _ =
    let history : List Entry = kept.0 in
    let h : HasHistory k history s = kept.1 in
    let v : View = me.0 in
    let f = h.fits id v at in
    let w : View = record v { seen = v.told } in
    let fits : Fits k history w = record { terms = f.terms; seats = f.seats; seen = f.told; told = f.told; own = f.own; idle = f.idle } in (
      w,
      keeps,
      tt,
      (history, stays k history s id me.1 v w (get_or s.words 0 0) h at fits (λ u stands. stands) (found_word k history s h)),
      ((history, finds k history s id v h at there, refl), refl),
    )

-- splits and joins

-- at the end of a list that is one longer
snoc_at : (l : List View) (a b : View) (j : ℕ) → get_elem? (l ++ a ∷ []) j ≡ some b → (get_elem? l j ≡ some b) ⊎ ((a ≡ b) × (j ≡ length l))
snoc_at [] a b zero e = inr (some-injective a b e, refl)
snoc_at [] a b (suc j) e = absurd (some-ne-none b (sym e))
snoc_at (x ∷ xs) a b zero e = inl e
snoc_at (x ∷ xs) a b (suc j) e = ⊎_elim (λ h. inl h) (λ t. inr (t.0, ap suc t.1 ∙ sym (Rattle.std.proofs.Common.add-one (length xs)) ∙ Rattle.std.proofs.Common.add-one (length xs))) (snoc_at xs a b j e)

divides : (k : Terms) (history : List Entry) (s : Table) (id : ℕ) (v left right : View) → HasHistory k history s → get_elem? s.views id ≡ some v
    → Fits k history left → Fits k history right → ((u : ℕ) → StandsFor left u → StandsFor v u) → ((u : ℕ) → StandsFor right u → StandsFor v u × ¬ (StandsFor left u))
    → HasHistory k history record { words = s.words; homes = s.homes; views = set s.views id left ++ right ∷ [] }
divides k history s id v left right h at fl fr less_left less_right = record {
  lawful = h.lawful;
  legal = h.legal;
  word = h.word;
  fits = λ i x ati. ⊎_elim (fits_set k history history s.views id left fl (λ j y _ atj. h.fits j y atj) i x) (λ (t : (right ≡ x) × (i ≡ length (set s.views id left))). subst (Fits k history) t.0 fr) (snoc_at (set s.views id left) right x i ati);
  apart = λ i j u x y ati atj sx sy.
      ⊎_elim
      (λ (oi : get_elem? (set s.views id left) i ≡ some x).
      ⊎_elim
      (λ (oj : get_elem? (set s.views id left) j ≡ some y). apart_set s.views id v left at less_left h.apart i j u x y oi oj sx sy)
      (λ (nj : (right ≡ y) × (j ≡ length (set s.views id left))). absurd (clash u i x oi sx (subst (λ (z : View). StandsFor z u) (sym nj.0) sy)))
      (snoc_at (set s.views id left) right y j atj))
      (λ (ni : (right ≡ x) × (i ≡ length (set s.views id left))).
      ⊎_elim
      (λ (oj : get_elem? (set s.views id left) j ≡ some y). absurd (clash u j y oj sy (subst (λ (z : View). StandsFor z u) (sym ni.0) sx)))
      (λ (nj : (right ≡ y) × (j ≡ length (set s.views id left))). ni.1 ∙ sym nj.1)
      (snoc_at (set s.views id left) right y j atj))
      (snoc_at (set s.views id left) right x i ati);
}
  where
    clash : (u i : ℕ) (x : View) → get_elem? (set s.views id left) i ≡ some x → StandsFor x u → StandsFor right u → ⊥
    clash u i x oi sx sr =
        ⊎_elim
        (λ (t : (i ≡ id) × (left ≡ x)). (less_right u sr).1 (subst (λ (z : View). StandsFor z u) (sym t.1) sx))
        (λ (t : (i ≢ id) × (get_elem? s.views i ≡ some x)). t.0 (h.apart i id u x v t.1 at sx (less_right u sr).0))
        (at_set s.views id i left x oi)

-- each seat in turn is split from those that are left
pub cuts : (k : Terms) (id : ℕ) (v : View) → 1 < v.width → v.mine ≡ [] → Splits (IsKept k) id v (first_seat v) (other_seats v)
cuts k id v some_left none_yet s kept at =
    let history : List Entry = kept.0 in
    let h : HasHistory k history s = kept.1 in
    let f = h.fits id v at in
    let seats = f.seats (omega arith) in (
      history,
      divides k history s id v (first_seat v) (other_seats v) h at
          record { terms = λ _. f.terms (omega arith); seats = λ _. omega arith; seen = f.seen; told = f.told; own = λ _. f.own (omega arith); idle = λ u a b. absurd (omega arith) }
          record { terms = λ _. f.terms (omega arith); seats = λ _. omega arith; seen = f.seen; told = f.told; own = λ _. f.idle (v.seat + 1) (omega arith) (omega arith) ∙ sym none_yet; idle = λ u a b. f.idle u (omega arith) (omega arith) }
          (λ u t. ((omega arith), (omega arith)))
          (λ u t. (((omega arith), (omega arith)), (λ t'. omega arith))),
    )

nobody_stands : (v : View) (u : ℕ) → v.width ≡ 0 → ¬ (StandsFor v u)
nobody_stands v u none_left t = omega arith

pub writes : (k : Terms) (id : ℕ) (v : View) → Splits (IsKept k) id v v (note_of v)
writes k id v s kept at =
    let history : List Entry = kept.0 in
    let h : HasHistory k history s = kept.1 in
    let f = h.fits id v at in (
      history,
      divides k history s id v v (note_of v) h at f
          record { terms = λ a. absurd (omega arith); seats = λ a. absurd (omega arith); seen = f.seen; told = (history, refl); own = λ a. absurd (omega arith); idle = λ u a b. absurd (omega arith) }
          (λ u stands. stands)
          (λ u stands. absurd (nobody_stands (note_of v) u refl stands)),
    )

-- two views are joined, and the second is spent
merges : (k : Terms) (history : List Entry) (s : Table) (id other : ℕ) (v w both : View) → HasHistory k history s → get_elem? s.views id ≡ some v → ¬ (other ≡ id)
    → get_elem? (set s.views id both) other ≡ some w
    → (Fits k history w → Fits k history both) → ((u : ℕ) → StandsFor both u → StandsFor v u)
    → HasHistory k history record { words = s.words; homes = s.homes; views = set (set s.views id both) other nobody }
merges k history s id other v w both h at apart there fits less =
    let there' : get_elem? s.views other ≡ some w = ⊎_elim (λ (t : (other ≡ id) × (both ≡ w)). absurd (apart t.0)) (λ (t : (other ≢ id) × (get_elem? s.views other ≡ some w)). t.1) (at_set s.views id other both w there) in
    record {
      lawful = h.lawful;
      legal = h.legal;
      word = h.word;
      fits = fits_set k history history (set s.views id both) other nobody (nobody_fits)
          (λ i x _ ati. fits_set k history history s.views id both (fits (h.fits other w there')) (λ j y _ atj. h.fits j y atj) i x ati);
      apart = apart_set (set s.views id both) other w nobody there (λ u stands. absurd (nobody_stands nobody u refl stands)) (apart_set s.views id v both at less h.apart);
    }
  where
    nobody_fits : Fits k history nobody
    nobody_fits = record { terms = λ a. absurd (omega arith); seats = λ a. absurd (omega arith); seen = (history, refl); told = (history, refl); own = λ a. absurd (omega arith); idle = λ u a b. absurd (omega arith) }

pub hears_it : (k : Terms) (id other : ℕ) (v w : View) → Joins (IsKept k) id v other w (hears v w) nobody
hears_it k id other v w s kept at apart there =
    let history : List Entry = kept.0 in
    let h : HasHistory k history s = kept.1 in
    let f = h.fits id v at in (
      history,
      merges k history s id other v w (hears v w) h at apart there
          (λ g. record { terms = f.terms; seats = f.seats; seen = f.seen; told = g.seen; own = f.own; idle = f.idle })
          (λ u stands. stands),
    )
