-- The value of a journal and of a ledger of one thread: what the ledger was opened with, and its history.
use Rattle.std.specs.Prelude.{ℕ, List, [], ◌∷◌, ◌++◌}
use Rattle.journal_core.specs.declared.entry.Entry.{Entry}
use Rattle.journal_core.specs.declared.entry.Event.{Event}
use Rattle.journal_core.specs.Range.{Numbers}
use Rattle.journal_core.specs.History.{Terms, IsLawful, Legal, entry}

pub record JournalView : Type 0 where
  pub terms : Terms
  pub history : List Entry

abbrev pub terms_of : Numbers → ℕ → Terms
terms_of range seats = record { range = range; seats = seats }

abbrev pub journal_over : Terms → List Entry → JournalView
journal_over terms history = record { terms = terms; history = history }

abbrev pub journal_of : Numbers → ℕ → List Entry → JournalView
journal_of range seats history = journal_over (terms_of range seats) history

-- a lawful range and number of seats, and a legal history over them
pub record IsJournal (journal : JournalView) : Type 0 where
  pub lawful : IsLawful journal.terms
  pub legal : Legal journal.terms journal.history

-- the journal with one more entry
abbrev pub adds : JournalView → ℕ → Event → JournalView
adds journal seat event = record { terms = journal.terms; history = journal.history ++ entry seat event ∷ [] }
