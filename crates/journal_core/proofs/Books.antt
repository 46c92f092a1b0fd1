-- A book's journal and its standing, before the first call and after each.
use Rattle.std.proofs.Common.{◌≡◌, ◌↔◌, ℕ, ◌<◌, ◌≤◌, Bool, true, false, nat_lt, if◌then◌else◌, [], ◌∷◌, ◌++◌, length, sym, ap, ◌∙◌, subst, arith, refl, ◌+◌, IsTrue}
use Rattle.std.proofs.lemmas.Bool.Decides.{nat_tests}
use Rattle.journal_core.specs.declared.entry.Event.TheVariants.{Granted, Exhausted, Settled}
use Rattle.journal_core.specs.declared.entry.Entry.{Entry}
use Rattle.journal_core.specs.declared.entry.Way.{Way}
use Rattle.journal_core.specs.History.{Terms, IsLawful, IsOpen, MayFollow, Legal, entry}
use Rattle.journal_core.specs.Journal.{JournalView, IsJournal, adds}
use Rattle.journal_core.specs.Standing.{StandingView, fresh, is_closed, answer_of, CanReply, CanFollow, IsSmall, after}
use Rattle.journal_core.specs.Booked.{IsBook}
use Rattle.journal_core.proofs.Histories.{legal_none, legal_push, reply_of, follows}
use Rattle.journal_core.proofs.Bounds.{within}
use Rattle.journal_core.proofs.Tracking.{tracks_none, can-may, small, tracks_after}

pub journal_none : (terms : Terms) → IsLawful terms → IsJournal record { terms = terms; history = [] }
journal_none terms lawful = record { lawful = lawful; legal = legal_none terms }

pub book_none : (terms : Terms) (s : StandingView) (j : JournalView) → IsLawful terms → s ≡ fresh terms → j ≡ record { terms = terms; history = [] } → IsBook s j
book_none terms s j lawful p q =
    subst (λ (z : StandingView × JournalView). IsBook z.0 z.1) (λ i. (sym p i, sym q i)) record { terms = refl; sound = journal_none terms lawful; tracks = tracks_none terms }

-- the tests decide what may follow
pub book_may : (s : StandingView) (j : JournalView) (e : Entry) → IsBook s j → CanFollow s e ↔ MayFollow j.terms j.history e
book_may s j e book =
    subst (λ terms. CanFollow s e ↔ MayFollow terms j.history e) book.terms
    (can-may s j.history e book.tracks (subst IsLawful (sym book.terms) book.sound.lawful) (subst (λ terms. Legal terms j.history) (sym book.terms) book.sound.legal))

pub book_small : (s : StandingView) (j : JournalView) → IsBook s j → IsSmall s.tally
book_small s j book =
    small s j.history book.tracks (subst IsLawful (sym book.terms) book.sound.lawful) (subst (λ terms. Legal terms j.history) (sym book.terms) book.sound.legal)

pub book_legal : (s : StandingView) (j : JournalView) (e : Entry) → IsBook s j → CanFollow s e → Legal j.terms (j.history ++ e ∷ [])
book_legal s j e book can = legal_push j.terms j.history e book.sound.legal ((book_may s j e book).0 can)

-- an open seat may issue and get this reply
pub can_answer : (s : StandingView) (j : JournalView) (seat : ℕ) → IsBook s j → is_closed s seat ≡ false → CanReply s seat (answer_of s)
can_answer s j seat book open_seat = go (nat_lt (length s.numbers) s.terms.range.size) refl
  where
    at_most : length s.numbers ≤ s.terms.range.size
    at_most =
        let legal = subst (λ terms. Legal terms j.history) (sym book.terms) book.sound.legal in
        let bound = (within s.terms j.history legal).0 in
        let count = book.tracks.count in omega arith

    go : (b : Bool) → nat_lt (length s.numbers) s.terms.range.size ≡ b → CanReply s seat (if b then Granted (s.terms.range.lo + length s.numbers) else Exhausted)
    go true is = (grind (arith, nat_tests), refl, open_seat)
    go false is = let bound = at_most in ((let e : s.terms.range.size ≤ length s.numbers = grind (arith, nat_tests) in omega arith), open_seat)

-- the book after one more operation
pub book_step : (s next : StandingView) (j grown : JournalView) (e : Entry) → IsBook s j → CanFollow s e → grown ≡ adds j e.seat e.event → next ≡ after s e.seat e.event → IsBook next grown
book_step s next j grown e book can p q =
    let lawful = subst IsLawful (sym book.terms) book.sound.lawful in
    let legal = subst (λ terms. Legal terms j.history) (sym book.terms) book.sound.legal in
    let may : MayFollow s.terms j.history e = (can-may s j.history e book.tracks lawful legal).0 can in
    subst (λ (z : StandingView × JournalView). IsBook z.0 z.1) (λ i. (sym q i, sym p i)) record {
      terms = same e ∙ book.terms;
      sound = record { lawful = book.sound.lawful; legal = book_legal s j e book can };
      tracks = tracks_after s j.history e book.tracks lawful legal may;
    }
  where
    same : (x : Entry) → (after s x.seat x.event).terms ≡ s.terms
    same x = elim x.event as (λ v. (after s x.seat v).terms ≡ s.terms) [ Granted n ↦ refl | Exhausted ↦ refl | Settled n way ↦ refl ]

-- a successful push added the entry
pub pushed : (j grown : JournalView) (e : Entry) (went : Bool) → grown ≡ (if went then adds j e.seat e.event else j) → went ≡ true → grown ≡ adds j e.seat e.event
pushed j grown e went is well = is ∙ ap (λ b. if b then adds j e.seat e.event else j) well

-- a settlement may follow if the number is open at the seat
pub open_test : (s : StandingView) (j now : JournalView) (seat n : ℕ) (way : Way) (can : Bool) → IsBook s j → j ≡ now → seat < s.terms.seats
    → IsTrue can ↔ CanFollow s (entry seat (Settled n way)) → (IsTrue can ↔ IsOpen seat n now.history) × (seat < now.terms.seats)
open_test s j now seat n way can book is low test =
    let e = entry seat (Settled n way) in
    let here : seat < j.terms.seats = subst (λ (t : Terms). seat < t.seats) book.terms low in
    let may = book_may s j e book in
    subst (λ (z : JournalView). (IsTrue can ↔ IsOpen seat n z.history) × (seat < z.terms.seats)) is
    (((λ yes_can. reply_of j.terms j.history e (may.0 (test.0 yes_can))), (λ opened. test.1 (may.1 (follows j.terms j.history e here opened)))), here)

pub is_false : (b : Bool) → b ≡ false → IsTrue b → ⊥
is_false b e t = cc
