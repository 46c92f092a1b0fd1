-- The bounds on the counts of a legal history.
use Rattle.std.proofs.Common.{◌≡◌, ℕ, zero, suc, ◌+◌, ◌<◌, ◌≤◌, cond, nat_eq, List, [], ◌∷◌, ◌++◌, refl, sym, ap, ◌∙◌, subst, arith, eq-eqb, ne_eqb}
use mathlib.Core.Logic.{dite}
use native.Mathlib.Decide.{ℕ_discrete}
use Rattle.journal_core.specs.declared.entry.Event.{Event}
use Rattle.journal_core.specs.declared.entry.Event.TheVariants.{Granted, Exhausted, Settled}
use Rattle.journal_core.specs.declared.entry.Entry.{Entry}
use Rattle.journal_core.specs.History.{Terms, entry, is_granted, is_exhausted, granted, refused, calls_of, Legal}
use Rattle.journal_core.proofs.Histories.{MayReply, reply_of, count_push, count_calls, induct}

-- the counts of a legal history

abbrev Within : Terms → List Entry → Type 0
Within terms history = (granted history ≤ terms.range.size) × (granted history < terms.range.size → refused history ≡ 0)

grow_within : (terms : Terms) (history : List Entry) (t : ℕ) (event : Event) → MayReply terms history t event → Within terms history → Within terms (history ++ entry t event ∷ [])
grow_within terms history t (Granted n) m p = let e = entry t (Granted n) in let a = count_push is_granted history e in let b = count_push is_exhausted history e in ((omega arith), (λ h. omega arith))
grow_within terms history t Exhausted m p = let e = entry t Exhausted in let a = count_push is_granted history e in let b = count_push is_exhausted history e in ((omega arith), (λ h. absurd (omega arith)))
grow_within terms history t (Settled n way) m p = let e = entry t (Settled n way) in let a = count_push is_granted history e in let b = count_push is_exhausted history e in ((omega arith), (λ h. omega arith))

pub within : (terms : Terms) (history : List Entry) → Legal terms history → Within terms history
within terms = induct terms (Within terms) ((omega arith), (λ h. refl)) (λ history e may p. grow_within terms history e.seat e.event (reply_of terms history e may) p)

abbrev OneRefusal : List Entry → Type 0
OneRefusal history = (t : ℕ) → refused (calls_of t history) ≤ 1

at_seat : (s t d m : ℕ) → (s ≡ t → d + m ≤ 1) → d ≤ 1 → d + cond (nat_eq s t) m 0 ≤ 1
at_seat s t d m here le = dite (ℕ_discrete s t)
    (λ e. subst (λ b. d + cond b m 0 ≤ 1) (sym (eq-eqb s t e)) (here e))
    (λ n. subst (λ b. d + cond b m 0 ≤ 1) (sym (ne_eqb s t n)) (omega arith))

grow_one_refusal : (terms : Terms) (history : List Entry) (s : ℕ) (event : Event) → MayReply terms history s event → OneRefusal history → OneRefusal (history ++ entry s event ∷ [])
grow_one_refusal terms history s (Granted n) m p t = rw (count_calls is_exhausted t history (entry s (Granted n))) (at_seat s t (refused (calls_of t history)) 0 (λ e. let q = p t in omega arith) (p t))
grow_one_refusal terms history s Exhausted m p t =
    rw (count_calls is_exhausted t history (entry s Exhausted)) (at_seat s t (refused (calls_of t history)) 1 (λ e. let q : refused (calls_of t history) ≡ 0 = subst (λ u. refused (calls_of u history) ≡ 0) e m.1 in omega arith) (p t))
grow_one_refusal terms history s (Settled n way) m p t = rw (count_calls is_exhausted t history (entry s (Settled n way))) (at_seat s t (refused (calls_of t history)) 0 (λ e. let q = p t in omega arith) (p t))

pub one_refusal : (terms : Terms) (history : List Entry) → Legal terms history → OneRefusal history
one_refusal terms = induct terms OneRefusal (λ t. omega arith) (λ history e may p. grow_one_refusal terms history e.seat e.event (reply_of terms history e may) p)

-- the sum of f over the numbers below n
abbrev pub sum_below : ℕ → (ℕ → ℕ) → ℕ
sum_below zero f = 0
sum_below (suc n) f = f n + sum_below n f

sum_below_same : (n u d : ℕ) (f g : ℕ → ℕ) → n ≤ u → ((t : ℕ) → g t ≡ f t + cond (nat_eq u t) d 0) → sum_below n g ≡ sum_below n f
sum_below_same zero u d f g h is = refl
sum_below_same (suc n) u d f g h is =
    let r = sum_below_same n u d f g (omega arith) is in
    let e : g n ≡ f n + 0 = is n ∙ ap (λ b. f n + cond b d 0) (ne_eqb u n (λ x. omega arith)) in omega arith

pub sum_below_more : (n u d : ℕ) (f g : ℕ → ℕ) → u < n → ((t : ℕ) → g t ≡ f t + cond (nat_eq u t) d 0) → sum_below n g ≡ sum_below n f + d
sum_below_more zero u d f g h is = absurd (omega arith)
sum_below_more (suc n) u d f g h is = dite (ℕ_discrete u n)
    (λ same. let r = sum_below_same n u d f g (omega arith) is in let e : g n ≡ f n + d = is n ∙ ap (λ b. f n + cond b d 0) (eq-eqb u n same) in omega arith)
    (λ other. let r = sum_below_more n u d f g (omega arith) is in let e : g n ≡ f n + 0 = is n ∙ ap (λ b. f n + cond b d 0) (ne_eqb u n other) in omega arith)

pub sum_below_ones : (n : ℕ) (f : ℕ → ℕ) → ((t : ℕ) → f t ≤ 1) → sum_below n f ≤ n
sum_below_ones zero f h = omega arith
sum_below_ones (suc n) f h = let r = sum_below_ones n f h in let e = h n in omega arith

sum_below_none : (n : ℕ) → sum_below n (λ _. 0) ≡ 0
sum_below_none zero = refl
sum_below_none (suc n) = let r = sum_below_none n in omega arith

abbrev SharedOut : Terms → List Entry → Type 0
SharedOut terms history = refused history ≡ sum_below terms.seats (λ t. refused (calls_of t history))

grow_shared_out : (terms : Terms) (history : List Entry) (e : Entry) → e.seat < terms.seats → SharedOut terms history → SharedOut terms (history ++ e ∷ [])
grow_shared_out terms history e h p =
    let r = sum_below_more terms.seats e.seat (cond (is_exhausted e) 1 0) (λ t. refused (calls_of t history)) (λ t. refused (calls_of t (history ++ e ∷ []))) h (λ t. count_calls is_exhausted t history e) in
    let q = count_push is_exhausted history e in omega arith

-- no more refusals than seats
pub few_refusals : (terms : Terms) (history : List Entry) → Legal terms history → refused history ≤ terms.seats
few_refusals terms history legal =
    let s : SharedOut terms history = induct terms (SharedOut terms) (sym (sum_below_none terms.seats)) (λ history e may p. grow_shared_out terms history e may.seat p) history legal in
    let r = sum_below_ones terms.seats (λ t. refused (calls_of t history)) (one_refusal terms history legal) in omega arith
