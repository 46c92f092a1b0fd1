-- What a command prints beside its outputs: lines, complaints and a journal.
use Rattle.std.specs.Prelude.{◌≡◌, ◌⊎◌, ℕ, List, [], ◌∷◌, ◌++◌, codes, Option}
use Rattle.std.specs.Fmt.{decimal}
use Rattle.io_core.specs.Streams.{AppendsFront}
use Rattle.journal_core.specs.declared.entry.Entry.{Entry}
use Rattle.journal_core.specs.declared.terms.Terms.{Terms}
use Rattle.journal_core.specs.Text.{journal_text}
use Rattle.command_core.specs.declared.line.FileOutcome.{FileOutcome}
use Rattle.command_core.specs.Lines.{line_text}

-- why a run that seals ended with status 2
abbrev pub IsComplaint : List ℕ → Type 0
IsComplaint text = (text ≡ codes "ledger: no files") ⊎ (text ≡ codes "ledger: too many files")
    ⊎ ((left : ℕ) × (text ≡ codes "ledger: " ++ decimal left ++ codes " numbers left"))
    ⊎ (text ≡ codes "ledger: store failed") ⊎ (text ≡ codes "ledger: not a ledger")
    ⊎ (text ≡ codes "ledger: out of memory") ⊎ (text ≡ codes "journal: out of memory")
    ⊎ (text ≡ codes "journal: write failed") ⊎ (text ≡ codes "ledger: older than its witness")
    ⊎ (text ≡ codes "witness: write failed")

-- a text that a command prints: the line of a file, or a complaint, with a line feed; or a journal
abbrev pub IsPrinted : List ℕ → Type 0
IsPrinted text = ((name : List ℕ) × (outcome : FileOutcome) × (text ≡ line_text name outcome ++ 10 ∷ []))
    ⊎ ((complaint : List ℕ) × IsComplaint complaint × (text ≡ complaint ++ 10 ∷ []))
    ⊎ ((terms : Terms) × (history : List Entry) × (text ≡ journal_text terms history))

-- Known bytes grew by a complaint with its line feed, or by a prefix of that.
abbrev pub Complains : Option (List ℕ) → Option (List ℕ) → Type 0
Complains old new = (text : List ℕ) × IsComplaint text × AppendsFront old new (text ++ 10 ∷ [])
