-- Each number granted belongs to one seat. Only that seat may settle it, once.
use Rattle.std.proofs.Common.{◌≡◌, ◌≢◌, ℕ, zero, suc, ◌+◌, ◌-◌, ◌<◌, ◌≤◌, Bool, true, false, cond, nat_eq, List, [], ◌∷◌, ◌++◌, count_by, refl, sym, ap, ◌∙◌, subst, arith, eq-eqb, ne_eqb}
use mathlib.Core.Logic.{dite}
use native.Mathlib.Decide.{ℕ_discrete, dec_le}
use Rattle.std.proofs.lemmas.List.Sums.{sum_by-cons}
use Rattle.journal_core.specs.declared.entry.Way.{Way}
use Rattle.journal_core.specs.declared.entry.Way.TheVariants.{Sealed, Void}
use Rattle.journal_core.specs.declared.entry.Event.{Event}
use Rattle.journal_core.specs.declared.entry.Event.TheVariants.{Granted, Exhausted, Settled}
use Rattle.journal_core.specs.declared.entry.Entry.{Entry}
use Rattle.journal_core.specs.History.{Terms, entry, is_granted, is_sealed, is_void, grants, settles, granted, sealed, voided, times_granted, times_settled, calls_of, Legal}
use Rattle.journal_core.proofs.Histories.{MayReply, reply_of, count_push, count_calls, induct, legal_none, legal_push}
use Rattle.journal_core.proofs.Bounds.{within, sum_below, sum_below_more, sum_below_ones}

-- each number granted to a seat is among the first `granted` numbers of the range
abbrev InRange : Terms → List Entry → Type 0
InRange terms history = (t n : ℕ) → 0 < times_granted n (calls_of t history) → (terms.range.lo ≤ n) × (n < terms.range.lo + granted history)

grow_in_range : (terms : Terms) (history : List Entry) (s : ℕ) (event : Event) → MayReply terms history s event → InRange terms history → InRange terms (history ++ entry s event ∷ [])
grow_in_range terms history s (Granted m) may p t n = λ h.
    let e = entry s (Granted m) in
    let more = count_push is_granted history e in
    let c = count_calls (grants n) t history e in
    dite (ℕ_discrete n m)
    (λ same. let x = may.0 in ((omega arith), (omega arith)))
    (λ other.
    let f : times_granted n (calls_of t (history ++ e ∷ [])) ≡ times_granted n (calls_of t history) = c ∙ ap (λ b. times_granted n (calls_of t history) + cond (nat_eq s t) (cond b 1 0) 0) (ne_eqb n m other) ∙ no_more (nat_eq s t) (times_granted n (calls_of t history)) in
    let q = p t n (omega arith) in ((omega arith), (omega arith)))
  where
    no_more : (b : Bool) (x : ℕ) → x + cond b 0 0 ≡ x
    no_more true x = omega arith
    no_more false x = omega arith
grow_in_range terms history s Exhausted may p t n = λ h.
    let e = entry s Exhausted in
    let more = count_push is_granted history e in
    let f : times_granted n (calls_of t (history ++ e ∷ [])) ≡ times_granted n (calls_of t history) = count_calls (grants n) t history e ∙ no_more (nat_eq s t) (times_granted n (calls_of t history)) in
    let q = p t n (omega arith) in ((omega arith), (omega arith))
  where
    no_more : (b : Bool) (x : ℕ) → x + cond b 0 0 ≡ x
    no_more true x = omega arith
    no_more false x = omega arith
grow_in_range terms history s (Settled m way) may p t n = λ h.
    let e = entry s (Settled m way) in
    let more = count_push is_granted history e in
    let f : times_granted n (calls_of t (history ++ e ∷ [])) ≡ times_granted n (calls_of t history) = count_calls (grants n) t history e ∙ no_more (nat_eq s t) (times_granted n (calls_of t history)) in
    let q = p t n (omega arith) in ((omega arith), (omega arith))
  where
    no_more : (b : Bool) (x : ℕ) → x + cond b 0 0 ≡ x
    no_more true x = omega arith
    no_more false x = omega arith

pub in_range : (terms : Terms) (history : List Entry) → Legal terms history → InRange terms history
in_range terms = induct terms (InRange terms) (λ t n h. absurd (omega arith)) (λ history e may p. grow_in_range terms history e.seat e.event (reply_of terms history e may) p)

abbrev SettledOnce : List Entry → Type 0
SettledOnce history = (n : ℕ) → times_settled n history ≤ 1

grow_settled_once : (terms : Terms) (history : List Entry) (s : ℕ) (event : Event) → MayReply terms history s event → SettledOnce history → SettledOnce (history ++ entry s event ∷ [])
grow_settled_once terms history s (Granted m) may p n = let c = count_push (settles n) history (entry s (Granted m)) in let q = p n in omega arith
grow_settled_once terms history s Exhausted may p n = let c = count_push (settles n) history (entry s Exhausted) in let q = p n in omega arith
grow_settled_once terms history s (Settled m way) may p n =
    let e = entry s (Settled m way) in
    let c = count_push (settles n) history e in
    dite (ℕ_discrete n m)
    (λ same. let x : times_settled n history ≡ 0 = ap (λ u. times_settled u history) same ∙ may.1 in let y : times_settled n (history ++ e ∷ []) ≡ times_settled n history + 1 = c ∙ ap (λ b. times_settled n history + cond b 1 0) (eq-eqb n m same) in omega arith)
    (λ other. let q = p n in let y : times_settled n (history ++ e ∷ []) ≡ times_settled n history + 0 = c ∙ ap (λ b. times_settled n history + cond b 1 0) (ne_eqb n m other) in omega arith)

pub settled_once : (terms : Terms) (history : List Entry) → Legal terms history → SettledOnce history
settled_once terms = induct terms SettledOnce (λ n. omega arith) (λ history e may p. grow_settled_once terms history e.seat e.event (reply_of terms history e may) p)

-- what was settled, number by number of the range
abbrev Numbered : Terms → List Entry → Type 0
Numbered terms history = (sealed history + voided history ≡ sum_below terms.range.size (λ i. times_settled (terms.range.lo + i) history)) × Legal terms history

sum_below_also : (n : ℕ) (f g : ℕ → ℕ) → ((t : ℕ) → g t ≡ f t + 0) → sum_below n g ≡ sum_below n f
sum_below_also zero f g is = refl
sum_below_also (suc n) f g is = let r = sum_below_also n f g is in let e = is n in omega arith

shifted : (lo i m : ℕ) → nat_eq (lo + i) (lo + m) ≡ nat_eq m i
shifted lo i m = dite (ℕ_discrete m i)
    (λ e. eq-eqb (lo + i) (lo + m) (omega arith) ∙ sym (eq-eqb m i e))
    (λ n. ne_eqb (lo + i) (lo + m) (λ e. n (omega arith)) ∙ sym (ne_eqb m i n))

grow_numbered : (terms : Terms) (history : List Entry) (s : ℕ) (event : Event) → MayReply terms history s event → Legal terms history
    → sealed history + voided history ≡ sum_below terms.range.size (λ i. times_settled (terms.range.lo + i) history)
    → sealed (history ++ entry s event ∷ []) + voided (history ++ entry s event ∷ []) ≡ sum_below terms.range.size (λ i. times_settled (terms.range.lo + i) (history ++ entry s event ∷ []))
grow_numbered terms history s (Granted m) may legal p = let e = entry s (Granted m) in
    let a = count_push is_sealed history e in let b = count_push is_void history e in
    let r = sum_below_also terms.range.size (λ i. times_settled (terms.range.lo + i) history) (λ i. times_settled (terms.range.lo + i) (history ++ e ∷ [])) (λ i. count_push (settles (terms.range.lo + i)) history e) in omega arith
grow_numbered terms history s Exhausted may legal p = let e = entry s Exhausted in
    let a = count_push is_sealed history e in let b = count_push is_void history e in
    let r = sum_below_also terms.range.size (λ i. times_settled (terms.range.lo + i) history) (λ i. times_settled (terms.range.lo + i) (history ++ e ∷ [])) (λ i. count_push (settles (terms.range.lo + i)) history e) in omega arith
grow_numbered terms history s (Settled m way) may legal p = let e = entry s (Settled m way) in
    let a = count_push is_sealed history e in let b = count_push is_void history e in
    let range = in_range terms history legal s m may.0 in
    let top = (within terms history legal).0 in
    let at : terms.range.lo + (m - terms.range.lo) ≡ m = omega arith in
    let r = sum_below_more terms.range.size (m - terms.range.lo) 1 (λ i. times_settled (terms.range.lo + i) history) (λ i. times_settled (terms.range.lo + i) (history ++ e ∷ [])) (omega arith)
    (λ i. count_push (settles (terms.range.lo + i)) history e ∙ ap (λ b. times_settled (terms.range.lo + i) history + cond b 1 0) (ap (nat_eq (terms.range.lo + i)) (sym at) ∙ shifted terms.range.lo i (m - terms.range.lo))) in
    let one : cond (is_sealed e) 1 0 + cond (is_void e) 1 0 ≡ 1 = either way in omega arith
  where
    either : (w : Way) → cond (is_sealed (entry s (Settled m w))) 1 0 + cond (is_void (entry s (Settled m w))) 1 0 ≡ 1
    either Sealed = refl
    either Void = refl

sum_below_start : (n : ℕ) (f : ℕ → ℕ) → ((t : ℕ) → f t ≡ 0) → sum_below n f ≡ 0
sum_below_start zero f is = refl
sum_below_start (suc n) f is = let r = sum_below_start n f is in let e = is n in omega arith

numbered : (terms : Terms) (history : List Entry) → Legal terms history → Numbered terms history
numbered terms = induct terms (Numbered terms) (sym (sum_below_start terms.range.size (λ i. times_settled (terms.range.lo + i) []) (λ i. refl)), legal_none terms)
    (λ history e may p. (grow_numbered terms history e.seat e.event (reply_of terms history e may) p.1 p.0, legal_push terms history e p.1 may))

-- the range has at least as many numbers as were settled
pub few_settled : (terms : Terms) (history : List Entry) → Legal terms history → sealed history + voided history ≤ terms.range.size
few_settled terms history legal =
    let s : Numbered terms history = numbered terms history legal in
    let r = sum_below_ones terms.range.size (λ i. times_settled (terms.range.lo + i) history) (λ i. settled_once terms history legal (terms.range.lo + i)) in let q = s.0 in omega arith

-- a number is granted to one seat, and settled by that seat

pub count_calls_le : (p : Entry → Bool) (t : ℕ) (history : List Entry) → count_by p (calls_of t history) ≤ count_by p history
count_calls_le p t [] = omega arith
count_calls_le p t (x ∷ xs) = go (nat_eq x.seat t) (count_calls_le p t xs)
  where
    go : (b : Bool) → count_by p (calls_of t xs) ≤ count_by p xs → count_by p (cond b (x ∷ calls_of t xs) (calls_of t xs)) ≤ count_by p (x ∷ xs)
    go true h = omega (arith, sum_by-cons (λ y. cond (p y) 1 0) x xs, sum_by-cons (λ y. cond (p y) 1 0) x (calls_of t xs))
    go false h = omega (arith, sum_by-cons (λ y. cond (p y) 1 0) x xs)

none_more : (b : Bool) → cond {A = ℕ} b 0 0 ≡ 0
none_more true = refl
none_more false = refl

-- an entry for which p is false changes no count of p
pub calls_same : (p : Entry → Bool) (t : ℕ) (history : List Entry) (e : Entry) → p e ≡ false → count_by p (calls_of t (history ++ e ∷ [])) ≡ count_by p (calls_of t history)
calls_same p t history e fails =
    let c = count_calls p t history e in
    let z : cond {A = ℕ} (nat_eq e.seat t) (cond {A = ℕ} (p e) 1 0) 0 ≡ 0 = ap (λ b. cond {A = ℕ} (nat_eq e.seat t) (cond {A = ℕ} b 1 0) 0) fails ∙ none_more (nat_eq e.seat t) in omega arith

pub calls_other : (p : Entry → Bool) (t : ℕ) (history : List Entry) (e : Entry) → e.seat ≢ t → count_by p (calls_of t (history ++ e ∷ [])) ≡ count_by p (calls_of t history)
calls_other p t history e other =
    let c = count_calls p t history e in
    let z : cond {A = ℕ} (nat_eq e.seat t) (cond {A = ℕ} (p e) 1 0) 0 ≡ 0 = ap (λ b. cond {A = ℕ} b (cond {A = ℕ} (p e) 1 0) 0) (ne_eqb e.seat t other) in omega arith

pub calls_more : (p : Entry → Bool) (t : ℕ) (history : List Entry) (e : Entry) → e.seat ≡ t → p e ≡ true → count_by p (calls_of t (history ++ e ∷ [])) ≡ count_by p (calls_of t history) + 1
calls_more p t history e same passes =
    let c = count_calls p t history e in
    let z : cond {A = ℕ} (nat_eq e.seat t) (cond {A = ℕ} (p e) 1 0) 0 ≡ 1 = (λ i. cond {A = ℕ} (eq-eqb e.seat t same i) (cond {A = ℕ} (passes i) 1 0) 0) in omega arith

pub count_same : (p : Entry → Bool) (history : List Entry) (e : Entry) → p e ≡ false → count_by p (history ++ e ∷ []) ≡ count_by p history
count_same p history e fails = let c = count_push p history e in let z : cond {A = ℕ} (p e) 1 0 ≡ 0 = ap (λ b. cond {A = ℕ} b 1 0) fails in omega arith

pub count_more : (p : Entry → Bool) (history : List Entry) (e : Entry) → p e ≡ true → count_by p (history ++ e ∷ []) ≡ count_by p history + 1
count_more p history e passes = let c = count_push p history e in let z : cond {A = ℕ} (p e) 1 0 ≡ 1 = ap (λ b. cond {A = ℕ} b 1 0) passes in omega arith

pub record Owned (terms : Terms) (history : List Entry) : Type 0 where
  pub legal : Legal terms history
  pub one_seat : (n t u : ℕ) → 0 < times_granted n (calls_of t history) → 0 < times_granted n (calls_of u history) → t ≡ u
  pub by_it : (n t : ℕ) → 0 < times_granted n (calls_of t history) → times_settled n history ≡ times_settled n (calls_of t history)
  pub below : (n : ℕ) → 0 < times_settled n history → n < terms.range.lo + granted history

-- an entry that neither grants nor settles the number
owned_same : (terms : Terms) (history : List Entry) (e : Entry) (n : ℕ) → grants n e ≡ false → settles n e ≡ false → Owned terms history
    → ((t u : ℕ) → 0 < times_granted n (calls_of t (history ++ e ∷ [])) → 0 < times_granted n (calls_of u (history ++ e ∷ [])) → t ≡ u)
    × ((t : ℕ) → 0 < times_granted n (calls_of t (history ++ e ∷ [])) → times_settled n (history ++ e ∷ []) ≡ times_settled n (calls_of t (history ++ e ∷ [])))
    × (0 < times_settled n (history ++ e ∷ []) → n < terms.range.lo + granted (history ++ e ∷ []))
owned_same terms history e n no_grant no_settle o = (
  (λ t u a b. let x = calls_same (grants n) t history e no_grant in let y = calls_same (grants n) u history e no_grant in o.one_seat n t u (omega arith) (omega arith)),
  (λ t a. let x = calls_same (grants n) t history e no_grant in let y = calls_same (settles n) t history e no_settle in let z = count_same (settles n) history e no_settle in let w = o.by_it n t (omega arith) in omega arith),
  (λ a. let z = count_same (settles n) history e no_settle in let g = count_push is_granted history e in let w = o.below n (omega arith) in omega arith),
)

grow_owned : (terms : Terms) (history : List Entry) (s : ℕ) (event : Event) → MayReply terms history s event → Owned terms history → (n : ℕ)
    → ((t u : ℕ) → 0 < times_granted n (calls_of t (history ++ entry s event ∷ [])) → 0 < times_granted n (calls_of u (history ++ entry s event ∷ [])) → t ≡ u)
    × ((t : ℕ) → 0 < times_granted n (calls_of t (history ++ entry s event ∷ [])) → times_settled n (history ++ entry s event ∷ []) ≡ times_settled n (calls_of t (history ++ entry s event ∷ [])))
    × (0 < times_settled n (history ++ entry s event ∷ []) → n < terms.range.lo + granted (history ++ entry s event ∷ []))
grow_owned terms history s Exhausted may o n = owned_same terms history (entry s Exhausted) n refl refl o
grow_owned terms history s (Granted m) may o n =
    let e = entry s (Granted m) in
    let more = count_push is_granted history e in
    let first = may.0 in
    dite (ℕ_discrete n m)
    (λ (new : n ≡ m).
    let its : (t : ℕ) → 0 < times_granted n (calls_of t (history ++ e ∷ [])) → s ≡ t = λ t a.
    dite (ℕ_discrete s t) (λ is. is) (λ other. let c = calls_other (grants n) t history e other in let r = in_range terms history o.legal t n (omega arith) in absurd (omega arith)) in
    let unsettled : times_settled n history ≡ 0 = dite (ℕ_discrete (times_settled n history) 0) (λ is. is) (λ not. let b = o.below n (omega arith) in absurd (omega arith)) in (
      (λ t u a b. sym (its t a) ∙ its u b),
      (λ t a. let x = calls_same (settles n) t history e refl in let y = count_same (settles n) history e refl in let z = count_calls_le (settles n) t history in omega arith),
      (λ a. let y = count_same (settles n) history e refl in absurd (omega arith)),
    ))
    (λ other. owned_same terms history e n (ne_eqb n m other) refl o)
grow_owned terms history s (Settled m way) may o n =
    let e = entry s (Settled m way) in
    dite (ℕ_discrete n m)
    (λ (this : n ≡ m).
    let passes : settles n e ≡ true = eq-eqb n m this in
    let held : 0 < times_granted n (calls_of s history) = subst (λ z. 0 < times_granted z (calls_of s history)) (sym this) may.0 in
    let same : (t : ℕ) → times_granted n (calls_of t (history ++ e ∷ [])) ≡ times_granted n (calls_of t history) = λ t. calls_same (grants n) t history e refl in (
      (λ t u a b. let x = same t in let y = same u in o.one_seat n t u (omega arith) (omega arith)),
      (λ t a.
          let x = same t in
          let is : s ≡ t = o.one_seat n s t held (omega arith) in
          let y = calls_more (settles n) t history e is passes in
          let z = count_more (settles n) history e passes in
          let w = o.by_it n t (omega arith) in omega arith),
      (λ a. let g = count_push is_granted history e in let r = in_range terms history o.legal s n held in omega arith),
    ))
    (λ other. owned_same terms history e n refl (ne_eqb n m other) o)

pub owned : (terms : Terms) (history : List Entry) → Legal terms history → Owned terms history
owned terms = induct terms (Owned terms)
    record { legal = legal_none terms; one_seat = λ n t u a b. absurd (omega arith); by_it = λ n t a. refl; below = λ n a. absurd (omega arith) }
    (λ history e may o. let g = grow_owned terms history e.seat e.event (reply_of terms history e may) o in record {
      legal = legal_push terms history e o.legal may;
      one_seat = λ n. (g n).0;
      by_it = λ n. (g n).1;
      below = λ n. (g n).2;
    })

-- a number that is open at its seat was not settled
pub still_open : (terms : Terms) (history : List Entry) (t n : ℕ) → Legal terms history → 0 < times_granted n (calls_of t history) → times_settled n (calls_of t history) ≡ 0 → times_settled n history ≡ 0
still_open terms history t n legal held none_yet = (owned terms history legal).by_it n t held ∙ none_yet

-- if each term is at most 1 and all terms from some index on are 0, the sum is at most that index
sum_below_cut : (n m : ℕ) (f : ℕ → ℕ) → ((t : ℕ) → f t ≤ 1) → ((t : ℕ) → m ≤ t → f t ≡ 0) → sum_below n f ≤ m
sum_below_cut zero m f ones none = omega arith
sum_below_cut (suc n) m f ones none = dite (dec_le m n)
    (λ past. let r = sum_below_cut n m f ones none in let e = none n past in omega arith)
    (λ before. let r = sum_below_ones n f ones in let e = ones n in omega arith)

-- no more numbers are settled than granted
pub settled_were_granted : (terms : Terms) (history : List Entry) → Legal terms history → sealed history + voided history ≤ granted history
settled_were_granted terms history legal =
    let s : Numbered terms history = numbered terms history legal in
    let o = owned terms history legal in
    let r = sum_below_cut terms.range.size (granted history) (λ i. times_settled (terms.range.lo + i) history) (λ i. settled_once terms history legal (terms.range.lo + i))
    (λ i past. dite (ℕ_discrete (times_settled (terms.range.lo + i) history) 0) (λ is. is) (λ not. let b = o.below (terms.range.lo + i) (omega arith) in absurd (omega arith))) in
    let q = s.0 in omega arith
