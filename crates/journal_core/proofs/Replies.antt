-- The reply of the next issue: the history determines it, and an open seat has one.
use Rattle.std.proofs.Common.{◌≡◌, ℕ, ◌+◌, ◌<◌, ◌≤◌, ⊎_elim, List, refl, sym, ap, ◌∙◌, arith}
use Rattle.std.proofs.lemmas.Bool.{cases_lt}
use Rattle.journal_core.specs.declared.entry.Event.{Event}
use Rattle.journal_core.specs.declared.entry.Event.TheVariants.{Granted, Exhausted, Settled}
use Rattle.journal_core.specs.declared.entry.Entry.{Entry}
use Rattle.journal_core.specs.History.{Terms, entry, granted, refused, calls_of, IsClosed, IsIssue, MayFollow, Legal}
use Rattle.journal_core.proofs.Histories.{MayReply, reply_of, follows}
use Rattle.journal_core.proofs.Bounds.{within}

same_reply : (terms : Terms) (history : List Entry) (s t : ℕ) (e f : Event) → IsIssue e → IsIssue f
    → MayReply terms history s e → MayReply terms history t f → e ≡ f
same_reply terms history s t (Granted m) (Granted n) i j a b = ap (λ k. Granted k) (a.0 ∙ sym b.0)
same_reply terms history s t (Granted m) Exhausted i j a b = let x = a.1 in let y = b.0 in absurd (omega arith)
same_reply terms history s t (Granted m) (Settled n way) i j a b = absurd j
same_reply terms history s t Exhausted (Granted n) i j a b = let x = a.0 in let y = b.1 in absurd (omega arith)
same_reply terms history s t Exhausted Exhausted i j a b = refl
same_reply terms history s t Exhausted (Settled n way) i j a b = absurd j
same_reply terms history s t (Settled m way) f i j a b = absurd i

pub one_reply : (terms : Terms) (history : List Entry) (s t : ℕ) (e f : Event) → IsIssue e → IsIssue f
    → MayFollow terms history (entry s e) → MayFollow terms history (entry t f) → e ≡ f
one_reply terms history s t e f i j a b =
    same_reply terms history s t e f i j (reply_of terms history (entry s e) a) (reply_of terms history (entry t f) b)

pub some_reply : (terms : Terms) (history : List Entry) (seat : ℕ) → Legal terms history → seat < terms.seats
    → ¬ IsClosed seat history → (reply : Event) × IsIssue reply × MayFollow terms history (entry seat reply)
some_reply terms history seat legal low may_issue =
    ⊎_elim
    (λ (less : granted history < terms.range.size).
    let next : ℕ = terms.range.lo + granted history in
    (Granted next, tt, follows terms history (entry seat (Granted next)) low (refl, less, never)))
    (λ (more : terms.range.size ≤ granted history).
    let most = (within terms history legal).0 in
    (Exhausted, tt, follows terms history (entry seat Exhausted) low ((omega arith), never)))
    (cases_lt (granted history) terms.range.size)
  where
    never : refused (calls_of seat history) ≡ 0
    never = ⊎_elim (λ (some : 0 < refused (calls_of seat history)). absurd (may_issue some))
        (λ (none : refused (calls_of seat history) ≤ 0). omega arith) (cases_lt 0 (refused (calls_of seat history)))
