-- A journal of which nothing was written isn't whole.
use Rattle.std.proofs.Common.{ℕ, List, [], map, Option}
use Rattle.std.proofs.KnownBytes.{Appends-nil}
use Rattle.io_core.specs.Streams.{LacksSome}
use Rattle.journal_core.specs.declared.entry.Entry.{Entry}
use Rattle.journal_core.specs.declared.terms.Terms.{Terms}
use Rattle.journal_core.specs.Text.{ended_lines, entry_text, journal_text, terms_text}
use Rattle.command_core.proofs.Telling.{lacks_more, some_text}

pub journal_lacks : (taken : Option (List ℕ)) (terms : Terms) (history : List Entry) → LacksSome taken taken (journal_text terms history)
journal_lacks taken terms history =
    lacks_more taken taken [] (journal_text terms history) (some_text (terms_text terms) (ended_lines (map entry_text history))) (Appends-nil taken)
