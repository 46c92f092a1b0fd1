-- The range line and the lines of the entries so far are written.
use Rattle.std.proofs.Common.{◌≡◌, take, string_bytes}
use Rattle.journal_core.specs.Text.{journal_text}
use Rattle.journal_core.proofs.journal.Journal.text.Given as goal

abbrev pub invariant-loop-entry : goal.invariant-loop-entry
invariant-loop-entry l = string_bytes l.text ≡ journal_text l.self.terms (take l.entry-index l.entry-items)
