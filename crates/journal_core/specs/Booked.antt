-- What a book keeps besides its journal.
use Rattle.std.specs.Prelude.{◌≡◌}
use Rattle.journal_core.specs.Journal.{JournalView, IsJournal}
use Rattle.journal_core.specs.Standing.{StandingView, Tracks}

-- the journal is legal, and `standing` is what its history left
pub record IsBook (standing : StandingView) (journal : JournalView) : Type 0 where
  pub terms : standing.terms ≡ journal.terms
  pub sound : IsJournal journal
  pub tracks : Tracks standing journal.history
