-- What a seat has heard of comes before whatever it does later: none of its numbers is granted again, and no count
-- decreases.
use Rattle.std.proofs.Common.{◌≡◌, ◌≢◌, ℕ, ◌+◌, ◌≤◌, Bool, cond, List, [], ◌∷◌, ◌++◌, count_by, refl, ap, ◌∙◌, subst, arith, ne_eqb}
use Rattle.std.proofs.lemmas.List.Sums.{sum_by-append}
use Rattle.journal_core.specs.declared.entry.Event.{Event}
use Rattle.journal_core.specs.declared.entry.Event.TheVariants.{Granted, Exhausted, Settled}
use Rattle.journal_core.specs.declared.entry.Entry.{Entry}
use Rattle.journal_core.specs.declared.terms.Terms.{Terms}
use Rattle.journal_core.specs.History.{Begins, Legal, entry, is_granted, grants, granted, times_granted}
use Rattle.ledger_core.specs.Shared.{SeatView, Extends, Knows}
use Rattle.journal_core.proofs.Histories.{MayReply, reply_of, count_push, induct, legal_front, begins_more}

-- a prefix of a list has no more of anything than the list
pub count_front : (p : Entry → Bool) (front whole : List Entry) → Begins front whole → count_by p front ≤ count_by p whole
count_front p front whole b =
    let all = ap (count_by p) b.1 in
    let parts = sum_by-append (λ (x : Entry). cond {A = ℕ} (p x) 1 0) front b.0 in
    omega arith

-- no number from the next one on has been granted
abbrev NotYet : Terms → List Entry → Type 0
NotYet terms history = (n : ℕ) → terms.range.lo + granted history ≤ n → times_granted n history ≡ 0

grow_not_yet : (terms : Terms) (history : List Entry) (s : ℕ) (event : Event) → MayReply terms history s event → NotYet terms history
    → NotYet terms (history ++ entry s event ∷ [])
grow_not_yet terms history s (Granted m) may p n = λ next.
    let e = entry s (Granted m) in
    let more = count_push is_granted history e in
    let its = may.0 in
    let other : n ≢ m = λ same. absurd (omega arith) in
    let kept = count_push (grants n) history e ∙ ap (λ b. times_granted n history + cond {A = ℕ} b 1 0) (ne_eqb n m other) in
    let before = p n (omega arith) in
    omega arith
grow_not_yet terms history s Exhausted may p n = λ next.
    let more = count_push is_granted history (entry s Exhausted) in
    let kept = count_push (grants n) history (entry s Exhausted) in
    let before = p n (omega arith) in
    omega arith
grow_not_yet terms history s (Settled m way) may p n = λ next.
    let more = count_push is_granted history (entry s (Settled m way)) in
    let kept = count_push (grants n) history (entry s (Settled m way)) in
    let before = p n (omega arith) in
    omega arith

not_yet : (terms : Terms) (history : List Entry) → Legal terms history → NotYet terms history
not_yet terms = induct terms (NotYet terms) (λ n next. refl) (λ history e may p. grow_not_yet terms history e.seat e.event (reply_of terms history e may) p)

pub not_again : (shown : List Entry) (old new : SeatView) (number : ℕ) → Begins shown old.seen → Extends old (Granted number) new → Knows new
    → times_granted number shown ≡ 0
not_again shown old new number heard does knows =
    let before : List Entry = old.seen ++ does.0 in
    let e : Entry = entry old.number (Granted number) in
    let legal : Legal new.terms (before ++ e ∷ []) = subst (Legal new.terms) (ap (λ (v : SeatView). v.seen) does.1) knows.legal in
    let next = (reply_of new.terms before e (legal before e [] refl)).0 in
    let none = not_yet new.terms before (legal_front new.terms before (e ∷ []) legal) number (omega arith) in
    let few = count_front (grants number) shown before (begins_more shown old.seen does.0 heard) in
    omega arith
