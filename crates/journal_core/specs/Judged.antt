-- What the lines of a journal so far amount to.
use Rattle.std.specs.Prelude.{◌≡◌, ℕ, List, [], ◌++◌, take}
use Rattle.journal_core.specs.declared.entry.Entry.{Entry}
use Rattle.journal_core.specs.declared.state.State.{State}
use Rattle.journal_core.specs.declared.state.State.TheVariants.{Start, Sound, Wrong}
use Rattle.journal_core.specs.History.{IsLawful, Legal}
use Rattle.journal_core.specs.Standing.{Tracks}
use Rattle.journal_core.specs.Text.{journal_lines}
use Rattle.journal_core.specs.Verdict.{Judges}

-- the state is right for these lines: none yet, or a legal history, or a verdict that no later line changes
abbrev pub Judged : State → List (List ℕ) → Type 0
Judged Start lines = lines ≡ []
Judged (Sound standing) lines =
    (history : List Entry) × (lines ≡ journal_lines standing.terms history) × IsLawful standing.terms
    × Legal standing.terms history × Tracks standing history
Judged (Wrong verdict) lines = (later : List (List ℕ)) (rest : List ℕ) → Judges (lines ++ later) rest verdict

-- two lists have the same first 35 bytes
abbrev pub SameFront : List ℕ → List ℕ → Type 0
SameFront xs ys = take 35 xs ≡ take 35 ys
